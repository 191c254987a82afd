-- What the most usual first word asks for.
use Rattle.std.proofs.Common.{◌≡◌, ℕ, true, false, List, codes, cond, ◌||◌, sym, ap, ◌∙◌}
use Rattle.std.proofs.lemmas.Slice.Eq.{bytes_eq-Decides}
use Rattle.std.specs.Str.{bytes_eq}
use Rattle.rev_script.specs.Words.{word}
use Rattle.rev_script.specs.Commands.{begins, verb_of, side_of, store_or, join_or, debug_command, actor_command, other_command, command, retrieval_command}

pub command-get : (ws : List (List ℕ)) → bytes_eq (word ws 0) (codes "get") ≡ true → retrieval_command false ws ≡ command ws
unfolding command other_command verb_of side_of
command-get ws e =
    let w : word ws 0 ≡ codes "get" = (bytes_eq-Decides (word ws 0) (codes "get")).0 e in
    let first : command ws ≡ join_or (side_of (word ws 0)) ws =
    ap (λ n. cond (begins 58 n) (debug_command ws) (cond (begins 64 n || begins 126 n) (actor_command ws) (store_or (verb_of n) ws))) w in
    let second : join_or (side_of (word ws 0)) ws ≡ other_command (word ws 0) ws = ap (λ n. join_or (side_of n) ws) w in
    sym (first ∙ second ∙ ap (λ name. other_command name ws) w)
