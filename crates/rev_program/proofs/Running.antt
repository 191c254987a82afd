-- What a run wrote, seen through the exchange on which it ran.
use Rattle.std.proofs.Common.{◌≡◌, ◌≢◌, inl, inr, ℕ, Bool, true, false, List, [], ◌∷◌, ◌++◌, map, Option, None, Some, String, Result, Ok, Err, IfOk, IfErr, IfSome, refl, sym, ◌∙◌, ap, subst, append-nil}
use Rattle.std.specs.declared.alloc.Global.{Global}
use Rattle.std.specs.Io.KnownBytes.{Keeps, Appends, append_known}
use Rattle.rev_classes.specs.declared.Config.{Config}
use Rattle.rev_classes.specs.declared.ConfigFault.{ConfigFault}
use Rattle.rev_classes.specs.Limits.{fault_of}
use Rattle.rev_script.specs.Source.{Told, told_of}
use Rattle.rev_script.specs.Exchange.{PlainExchange, exchange_at, told_in}
use Rattle.rev_script.specs.declared.dialect.Dialect.{Dialect}
use Rattle.rev_script.specs.declared.source.LastRead.TheVariants.{Gave}
use Rattle.rev_output.specs.Sink.{PlainSink, sink_at}
use Rattle.rev_output.specs.Outbox.{known_since, contents}
use Rattle.rev_shell.specs.Answers.{BookmarkedSession}
use Rattle.rev_evidence.specs.Notes.{no_notes}
use Rattle.rev_shell.specs.Run.{Because, IsDone, IsStopped, without_bookmarks}
use Rattle.rev_shell.specs.declared.run.Prompts.{Prompts}
use Rattle.rev_shell.specs.declared.run.Prompts.TheVariants.{Hidden}
use Rattle.rev_shell.specs.declared.run.RunFault.{RunFault}
use Rattle.rev_shell.specs.declared.run.RunFault.TheVariants as faults
use Rattle.rev_shell.specs.declared.run.Summary.{Summary}
use Rattle.rev_json.specs.Told.{IsTold, IsStoppedTelling}
use Rattle.rev_messages.specs.declared.stop.Stop.{Stop}
use Rattle.rev_messages.specs.Ends.{StopsBy}
use Rattle.rev_program.specs.Program.{IsCounted}
use Rattle.rev_program.specs.Running.{HasDone, HasEnded, Stops, HasRun, HasStopped, HasRunBehind, StopsBehind, Answers, AnswersLess, AnswersNamed, StopsNamed, HaveNames, EndsAnswering}

-- ---- what is known of the writer

-- nothing waits at first
at_first : (h : Option (List ℕ)) → known_since h (append_known h []) ≡ h
at_first None = refl
at_first (Some xs) = ap Some (append-nil xs)

pub keep : (a : Option (List ℕ)) → Keeps a a
keep None = tt
keep (Some xs) = refl

-- the writer holds what was written, but for what waits
reached : (first sent : Option (List ℕ)) (unsent : List ℕ) → Keeps (known_since first (append_known sent unsent)) (append_known sent unsent)
reached None sent unsent = tt
reached (Some xs) sent unsent = keep (append_known sent unsent)

-- all of it where nothing waits
all_sent : (a sent : Option (List ℕ)) (unsent : List ℕ) → unsent ≡ [] → Keeps a (append_known sent unsent) → Keeps a sent
all_sent None sent unsent e k = tt
all_sent (Some xs) None unsent e k = absurd k
all_sent (Some xs) (Some ys) unsent e k = sym (append-nil ys) ∙ ap (λ l. ys ++ l) (sym e) ∙ k

wrote_through : (h c s : Option (List ℕ)) (t : List ℕ) → Appends (known_since h (append_known h [])) c t → Keeps c s → Appends h s t
wrote_through None c s t p k = tt
wrote_through (Some xs) None s t p k = absurd p
wrote_through (Some xs) (Some ys) None t p k = absurd k
wrote_through (Some xs) (Some ys) (Some zs) t p k = k ∙ p ∙ ap (λ l. l ++ t) (append-nil xs)

-- ---- from the exchange to the reader and the writer

module _ (d : Dialect) (p : Prompts) (r h : Option (List ℕ)) (w : ℕ) (left : Told) (start : BookmarkedSession) where
  abbrev began : Told
  began = told_in (exchange_at r h w)

  -- all that was written is sent
  pub done_through : (json : Bool) (new : PlainSink) (s : Option (List ℕ)) (sum : Summary) → Keeps new.contents s →
      HasDone json d p began left began.beside.sink new start sum → HasDone json d p (told_of r Gave 0) left (sink_at h 0) (sink_at s 0) start sum
  done_through false new s sum k x = record {
    read = x.read;
    took = x.took;
    none_left = x.none_left;
    ended = x.ended;
    wrote = wrote_through h new.contents s _ x.wrote k;
    reads = x.reads;
    writes = refl;
    lines_are = x.lines_are;
    plays_are = x.plays_are;
    bad_are = x.bad_are;
    refused_are = x.refused_are;
  }
  done_through true new s sum k x =
      let e = x.1.ended.done in (
        x.0,
        record {
          ended = record {
            done = record {
              read = e.read;
              took = e.took;
              none_left = e.none_left;
              ended = e.ended;
              wrote = tt;
              reads = e.reads;
              writes = refl;
              lines_are = e.lines_are;
              plays_are = e.plays_are;
              bad_are = e.bad_are;
              refused_are = e.refused_are;
            };
            left_is = x.1.ended.left_is;
          };
          wrote = (x.1.wrote.0, x.1.wrote.1, wrote_through h new.contents s _ x.1.wrote.2 k);
        },
      )

  because_from : (e : RunFault) (read : List ℕ) (old new : PlainSink) → Because e read began left old new → Because e read (told_of r Gave 0) left old new
  because_from (faults.Memory line) read old new x = x
  because_from faults.Read read old new x = x
  because_from faults.Write read old new x = x
  because_from faults.TooLong read old new x = x

  done_from : (old new : PlainSink) (sum : Summary) → IsDone d p began left old new start sum → IsDone d p (told_of r Gave 0) left old new start sum
  done_from old new sum x = record {
    read = x.read;
    took = x.took;
    none_left = x.none_left;
    ended = x.ended;
    wrote = x.wrote;
    reads = x.reads;
    writes = x.writes;
    lines_are = x.lines_are;
    plays_are = x.plays_are;
    bad_are = x.bad_are;
    refused_are = x.refused_are;
  }

  stopped_from : (old new : PlainSink) (e : RunFault) → IsStopped d p began left old new start e → IsStopped d p (told_of r Gave 0) left old new start e
  stopped_from old new e x = record { read = x.read; took = x.took; because = because_from e x.read old new x.because; wrote = x.wrote }

abbrev told_from : (d : Dialect) (p : Prompts) (r h : Option (List ℕ)) (w : ℕ) (left : Told) (start then : BookmarkedSession) (old new : PlainSink) (sum : Summary) →
    IsTold d (told_in (exchange_at r h w)) left old new start then sum → IsTold d (told_of r Gave 0) left old new start then sum
told_from d p r h w left start then old new sum x =
    let e = x.ended.done in
    record {
      ended = record {
        done = record {
          read = e.read;
          took = e.took;
          none_left = e.none_left;
          ended = e.ended;
          wrote = tt;
          reads = e.reads;
          writes = e.writes;
          lines_are = e.lines_are;
          plays_are = e.plays_are;
          bad_are = e.bad_are;
          refused_are = e.refused_are;
        };
        left_is = x.ended.left_is;
      };
      wrote = x.wrote;
    }

-- the same of a run however it ended, on another count of its reader
ended_from : (d : Dialect) (p : Prompts) (r h : Option (List ℕ)) (w : ℕ) (left : Told) (start : BookmarkedSession) (json : Bool) (old new : PlainSink) (end : Result Summary RunFault) →
    HasEnded json d p (told_in (exchange_at r h w)) left old new start end → HasEnded json d p (told_of r Gave 0) left old new start end
ended_from d p r h w left start false old new (Ok sum) x = done_from d p r h w left start old new sum x
ended_from d p r h w left start true old new (Ok sum) x = (x.0, told_from d p r h w left start x.0 old new sum x.1)
ended_from d p r h w left start false old new (Err e) x = stopped_from d p r h w left start old new e x
ended_from d p r h w left start true old new (Err e) x = record {
  stopped = stopped_from d Hidden r h w left start (sink_at None old.failures) (sink_at None new.failures) e x.stopped;
  wrote = x.wrote;
}

pub ended_through : (d : Dialect) (p : Prompts) (r h : Option (List ℕ)) (w : ℕ) (left : Told) (start : BookmarkedSession) (json : Bool) (new : PlainSink) (end : Result Summary RunFault) →
    HasEnded json d p (told_in (exchange_at r h w)) left (told_in (exchange_at r h w)).beside.sink new start end → HasEnded json d p (told_of r Gave 0) left (sink_at h 0) new start end
ended_through d p r h w left start json new end x =
    ended_from d p r h w left start json (sink_at h 0) new end
    (subst (λ c. HasEnded json d p (told_in (exchange_at r h w)) left (sink_at c 0) new start end) (at_first h) x)

-- ---- a run behind starts, from its exchange to its reader and its writer

-- an exchange whose buffers are over this reader
pub began_at : {old : PlainExchange} {b r h : Option (List ℕ)} {w : ℕ} → old ≡ exchange_at b h w → b ≡ r → old ≡ exchange_at r h w
began_at {old} {b} {r} {h} {w} e f = e ∙ ap (λ x. exchange_at x h w) f

module _ {F : Type 0} (remaining : F → Option (List ℕ)) (json : Bool) (d : Dialect) (config : Config) (files : List (String Global × F)) (r h s : Option (List ℕ)) (w : ℕ) where
  pub answers_through : (old new : PlainExchange) (sum : Summary) → old ≡ exchange_at r h w → new.outbox.sent ≡ s → HasRunBehind remaining json d config files old new sum →
      Answers remaining json d config files r h s sum
  answers_through old new sum is sent x =
      let o = new.outbox in
      let y = subst (λ e. HasRun json d Hidden e new (without_bookmarks x.m no_notes) sum) is x.run in
      let k = subst (λ z. Keeps (contents o) z) sent (all_sent (contents o) o.sent o.unsent y.sent (reached o.first o.sent o.unsent)) in
      record {
        m = x.m;
        starts_are = x.starts_are;
        left = y.left;
        done = done_through d Hidden r h w y.left (without_bookmarks x.m no_notes) json y.written s sum (subst (λ z. Keeps z s) y.kept k) y.done;
      }

  pub less_through : (old new : PlainExchange) (stop : Stop) → old ≡ exchange_at r h w → new.outbox.sent ≡ s → StopsBehind remaining json d config files old new stop →
      AnswersLess remaining json d config files r h s stop
  less_through old new stop is sent (inl x) =
      let k : h ≡ s = ap (λ e. e.outbox.sent) (sym is) ∙ ap (λ e. e.outbox.sent) (sym x.0) ∙ sent in
      inl (subst (λ z. Keeps h z) k (keep h), x.1)
  less_through old new stop is sent (inr x) =
      let o = new.outbox in
      let y = subst (λ e. HasStopped json d Hidden e new (without_bookmarks x.m no_notes) stop) is x.stopped in
      inr (record {
        m = x.m;
        starts_are = x.starts_are;
        left = y.left;
        written = y.written;
        end = y.end;
        ended = ended_through d Hidden r h w y.left (without_bookmarks x.m no_notes) json y.written y.end y.ended;
        reaches = (o.unsent, subst (λ z. Keeps z (append_known s o.unsent)) y.kept (subst (λ z. Keeps (contents o) (append_known z o.unsent)) sent (reached o.first o.sent o.unsent)));
        stop_is = y.stop_is;
      })

-- ---- a run on an exchange

-- how a run ended
pub answered : (d : Dialect) (p : Prompts) (a b : Told) (old new : PlainSink) (start : BookmarkedSession) (end : Result Summary RunFault) →
    IfOk end (λ sum. IsDone d p a b old new start sum) → IfErr end (λ e. IsStopped d p a b old new start e) → HasEnded false d p a b old new start end
answered d p a b old new start (Ok sum) done stopped = done
answered d p a b old new start (Err e) done stopped = stopped

pub told : (d : Dialect) (p : Prompts) (a b : Told) (old new : PlainSink) (start : BookmarkedSession) {N : Type 0} (left : N → BookmarkedSession) (end : Result Summary RunFault) →
    IfOk end (λ sum. (n : N) × IsTold d a b old new start (left n) sum) → IfErr end (λ e. IsStoppedTelling d a b old new start e) → HasEnded true d p a b old new start end
told d p a b old new start left (Ok sum) done stopped = (left done.0, done.1)
told d p a b old new start left (Err e) done stopped = stopped

-- and what is behind it, where what was written stays
pub run_behind : (json : Bool) (d : Dialect) (p : Prompts) (old mid new : PlainExchange) (start : BookmarkedSession) (end : Result Summary RunFault) (sum : Summary) → contents new.outbox ≡ contents mid.outbox →
    HasEnded json d p (told_in old) (told_in mid) (told_in old).beside.sink (told_in mid).beside.sink start end → end ≡ Ok sum → new.outbox.unsent ≡ [] → HasRun json d p old new start sum
run_behind json d p old mid new start end sum kept x is none = record {
  left = told_in mid;
  written = (told_in mid).beside.sink;
  done = subst (λ e. HasEnded json d p (told_in old) (told_in mid) (told_in old).beside.sink (told_in mid).beside.sink start e) is x;
  kept = kept;
  sent = none;
}

pub stopped_behind : (json : Bool) (d : Dialect) (p : Prompts) (old mid new : PlainExchange) (start : BookmarkedSession) (end : Result Summary RunFault) (stop : Stop) → contents new.outbox ≡ contents mid.outbox →
    HasEnded json d p (told_in old) (told_in mid) (told_in old).beside.sink (told_in mid).beside.sink start end → Stops end stop → HasStopped json d p old new start stop
stopped_behind json d p old mid new start end stop kept x stops = record {
  left = told_in mid;
  written = (told_in mid).beside.sink;
  end = end;
  ended = x;
  kept = kept;
  stop_is = stops;
}

-- ---- a run as the program tells of it

-- a result that is no fault
no_fault : {X : Type 0} (o : Option X) (f : X → Result Summary Stop) (sum : Summary) → ((x : X) → f x ≡ Ok sum → ⊥) → IfSome o (λ x. Ok sum ≡ f x) → o ≡ None
no_fault None f sum other h = refl
no_fault (Some x) f sum other h = absurd (other x (sym h))

-- one more file has the next name
pub names_more : {F : Type 0} (files : List (String Global × F)) (file : String Global × F) (name : String Global) (rest more names : List (String Global)) → file.0 ≡ name → rest ≡ name ∷ more →
    map (λ f. f.0) files ++ rest ≡ names → map (λ f. f.0) (files ++ file ∷ []) ++ more ≡ names
names_more [] file name rest more names e r i = ap (λ n. n ∷ more) e ∙ sym r ∙ i
names_more (f ∷ fs) file name rest more names e r i = ap (λ l. f.0 ∷ l) (names_more fs file name rest more (map (λ x. x.0) fs ++ rest) e r refl) ∙ i

-- files that were opened, and a run that was stopped behind them
pub stops_named : {F : Type 0} (remaining : F → Option (List ℕ)) (json : Bool) (d : Dialect) (config : Config) (names : List (String Global)) (files : List (String Global × F)) (r h s : Option (List ℕ)) (stop : Stop) → HaveNames files names →
    AnswersLess remaining json d config files r h s stop → StopsNamed remaining json d config names r h s stop
stops_named remaining json d config names files r h s stop n (inl x) = inl x.0
stops_named remaining json d config names files r h s stop n (inr x) = inr (files, n, x)

module _ {F : Type 0} (remaining : F → Option (List ℕ)) (told tells : Option (List ℕ)) (before after : ℕ) (r h s : Option (List ℕ)) (n : ℕ) where
  pub ends_answering : (config : Config) (json : Bool) (d : Dialect) (names : List (String Global)) (fault : ConfigFault → Stop) (done : Result Summary Stop) → IfSome (fault_of config) (λ f. done ≡ Err (fault f)) →
      IfOk done (λ sum. AnswersNamed remaining json d config names r h s sum) → IfErr done (λ stop. StopsNamed remaining json d config names r h s stop) →
      IfOk done (λ sum. (n ≡ 0) × IsCounted told tells before after sum) → IfErr done (λ stop. (n ≢ 0) × StopsBy told tells before after n stop) → EndsAnswering remaining told tells before after r h s n
  ends_answering config json d names fault (Ok sum) sane answers less counted stopped = record {
    done = λ nothing. (sum, counted.1, (config, json, d, names, no_fault (fault_of config) (λ f. Err (fault f)) sum (λ x e. cc e) sane, answers));
    stopped = λ some. absurd (some counted.0);
  }
  ends_answering config json d names fault (Err stop) sane answers less counted stopped = record {
    done = λ nothing. absurd (stopped.0 nothing);
    stopped = λ some. (stop, stopped.1, inr (config, json, d, names, less));
  }

  -- words that no run is made of
  pub ends_refused : (stop : Stop) → n ≢ 0 → StopsBy told tells before after n stop → Keeps h s → EndsAnswering remaining told tells before after r h s n
  ends_refused stop some by kept = record { done = λ nothing. absurd (some nothing); stopped = λ more. (stop, by, inl kept) }
