-- What each line of a script does to a session, and what is answered.
-- Rule of memcached: which answer a command gets, and that `noreply` drops it.
-- Rule of this project: the lines that begin with `:`.
use Rattle.std.specs.Prelude.{ℕ, ◌++◌, false, if◌then◌else◌, List, Option, None, Some, Result, Ok, Err, unwrap_or, codes}
use Rattle.rev_model.specs.State.{free_of, queue_of, find}
use Rattle.rev_tree.specs.Rows.{row_of, parent_of}
use Rattle.rev_tree.specs.Positions.{SessionState}
use Rattle.rev_script.specs.declared.command.DebugCommand.{DebugCommand}
use Rattle.rev_script.specs.declared.command.DebugCommand.TheVariants as debugs
use Rattle.rev_script.specs.declared.command.KeyQuery.{KeyQuery}
use Rattle.rev_script.specs.declared.command.KeyQuery.TheVariants as queries
use Rattle.rev_script.specs.declared.command.BookmarkCommand.{BookmarkCommand}
use Rattle.rev_script.specs.declared.command.BookmarkCommand.TheVariants as bookmarks
use Rattle.rev_script.specs.Script.{ScriptLine, StorageLine, RetrievalLine, UpdateLine, FlushLine, ActorLine, TuneLine, DebugLine, QueryLine, BookmarkLine, BadLine}
use Rattle.rev_watch.specs.Keys.{key_of}
use Rattle.rev_watch.specs.declared.fault.LineFault.{LineFault}
use Rattle.rev_texts.specs.Texts.{of_class, output, bad_text, found_text, place_text, entries_text, chunks_text, pages_text, counters_text, globals_text, node_text, parent_text}
use Rattle.rev_views.specs.Trees.{gone_to, child_at, child_text, go_text, gone, prune_text, after_prune, tree_text}
use Rattle.rev_views.specs.Bookmarks.{bookmarked, with_bookmark, bookmarked_text, bookmarks_text, goto_text, gone_by}
use Rattle.rev_requests.specs.Plain.{plain_actor}
use Rattle.rev_script.specs.Steps.{storage_step, keyed_step, flush_step, tune_step}
use Rattle.rev_evidence.specs.Notes.{PlainNotes, is_none}
use Rattle.rev_explain.specs.Story.{story, why_of}
use Rattle.rev_explain.specs.declared.events.Why.{Why}
use Rattle.rev_explain.specs.declared.events.Why.TheVariants as whys
use Rattle.rev_explain.specs.Departures.{departures, at_most, last_of}
use Rattle.rev_explain.specs.Clocks.{node_by}
use Rattle.rev_views.specs.Reasons.{events_text, why_text}
use Rattle.rev_views.specs.Views.{departures_text, step_text, time_text, after_time}
use Rattle.rev_views.specs.Classes.{classes_text}
use Rattle.rev_texts.specs.Help.{help_text, help_on_text}
use Rattle.rev_plays.specs.Replies.{state_of, reply, after_step, reply_text, values, after_gets}

-- ---- a session, the bookmarks beside it, which belong to the run and are not undone, and what a log says of its nodes,
-- which no line changes

-- a session with its bookmarks and its log
pub record BookmarkedSession : Type 0 where
  pub session : SessionState
  pub bookmarks : List (List ℕ × ℕ)
  pub log : PlainNotes

-- a session, and its bookmarks and its log beside it
abbrev pub beside : SessionState → List (List ℕ × ℕ) → PlainNotes → BookmarkedSession
beside m names log = record { session = m; bookmarks = names; log = log }

-- ---- debug commands; they make no node

-- what is answered to a line that begins with `:`
abbrev pub debug_text : BookmarkedSession → DebugCommand → List ℕ
debug_text d debugs.At = node_text d.session.current
debug_text d debugs.Back = parent_text (parent_of d.session.rows d.session.current)
debug_text d (debugs.Forward i) = child_text (child_at d.session i)
debug_text d (debugs.Go n) = go_text d.session n
debug_text d (debugs.Queue c q limit) =
    of_class (state_of d.session) c (output (codes "QUEUE" ++ entries_text (state_of d.session) (at_most limit (queue_of (state_of d.session) c q))))
debug_text d (debugs.Free c) = of_class (state_of d.session) c (output (codes "FREE" ++ chunks_text (free_of (state_of d.session) c)))
debug_text d debugs.Pages = pages_text 0 (state_of d.session).owner ++ output (codes "END")
debug_text d (debugs.Counters c) = of_class (state_of d.session) c (counters_text (state_of d.session) c)
debug_text d debugs.Globals = globals_text (state_of d.session)
debug_text d debugs.Tree = tree_text d.session
debug_text d debugs.Marks = bookmarks_text d.bookmarks
debug_text d (debugs.Prune n) = prune_text d.session n
debug_text d (debugs.Gone limit) = departures_text d.log (last_of limit (departures d.session.root d.session.rows d.session.current))
debug_text d (debugs.Step n) = step_text d.session n (row_of d.session.rows n)
debug_text d (debugs.Time t) = time_text d.session (node_by d.session.root d.session.rows d.session.current t)
debug_text d debugs.Classes = classes_text (state_of d.session)
debug_text d debugs.Help = help_text

-- the session after it
abbrev pub after_debug : SessionState → DebugCommand → SessionState
after_debug m debugs.At = m
after_debug m debugs.Back = gone_to m (parent_of m.rows m.current)
after_debug m (debugs.Forward i) = gone_to m (child_at m i)
after_debug m (debugs.Go n) = gone m n
after_debug m (debugs.Queue c q limit) = m
after_debug m (debugs.Free c) = m
after_debug m debugs.Pages = m
after_debug m (debugs.Counters c) = m
after_debug m debugs.Globals = m
after_debug m debugs.Tree = m
after_debug m debugs.Marks = m
after_debug m (debugs.Prune n) = after_prune m n
after_debug m (debugs.Gone limit) = m
after_debug m (debugs.Step n) = m
after_debug m (debugs.Time t) = after_time m (node_by m.root m.rows m.current t)
after_debug m debugs.Classes = m
after_debug m debugs.Help = m

-- what is asked of a key at the current node
abbrev pub asked_text : PlainNotes → SessionState → KeyQuery → List ℕ → List ℕ
asked_text log m queries.Item k = found_text (state_of m) (find (state_of m) k)
asked_text log m queries.Chunk k = place_text (find (state_of m) k)
asked_text log m queries.Why k = why_text log k (why_of m.root m.rows m.current k)
asked_text log m queries.Story k = events_text log k (story m.root m.rows m.current k)

-- what a text names in a line of a log: a key, or nothing
abbrev pub spelled : Result (List ℕ × ℕ) LineFault → Option (List ℕ)
spelled (Ok named) = Some named.0
spelled (Err e) = None

-- the key that is meant, of which the session says this: one that never was there may be spelled as in the log
abbrev pub meant : Why → List ℕ → List ℕ
meant whys.Never k = unwrap_or (spelled (key_of k)) k
meant w k = k

-- what is asked of a key, which may be spelled as in the log where one tells of the session
abbrev pub query_text : PlainNotes → SessionState → KeyQuery → List ℕ → List ℕ
query_text log m q k = asked_text log m q (if is_none log then k else meant (why_of m.root m.rows m.current k) k)

-- what is answered to a line about a name
abbrev pub bookmark_text : BookmarkedSession → BookmarkCommand → List ℕ → List ℕ
bookmark_text d bookmarks.Mark name = bookmarked_text name d.session.current
bookmark_text d bookmarks.Goto name = goto_text d.session (bookmarked d.bookmarks name)
bookmark_text d bookmarks.Help name = help_on_text name

-- the session after it
abbrev pub after_bookmark : BookmarkedSession → BookmarkCommand → List ℕ → BookmarkedSession
after_bookmark d bookmarks.Mark name = record d { bookmarks = with_bookmark d.bookmarks name d.session.current }
after_bookmark d bookmarks.Goto name = record d { session = gone_by d.session (bookmarked d.bookmarks name) }
after_bookmark d bookmarks.Help name = d

-- ---- a line

-- what a line answers
abbrev pub answer : BookmarkedSession → ScriptLine → List ℕ
answer d (StorageLine c k flags exptime payload noreply) = reply_text noreply (reply d.session (storage_step c k flags exptime payload))
answer d (RetrievalLine ks with_cas) = values with_cas d.session ks
answer d (UpdateLine c k noreply) = reply_text noreply (reply d.session (keyed_step c k))
answer d (FlushLine delay noreply) = reply_text noreply (reply d.session (flush_step delay))
answer d (ActorLine a) = reply_text false (reply d.session (plain_actor a))
answer d (TuneLine t) = reply_text false (reply d.session (tune_step t))
answer d (DebugLine c) = debug_text d c
answer d (QueryLine q k) = query_text d.log d.session q k
answer d (BookmarkLine c name) = bookmark_text d c name
answer d (BadLine a) = output (bad_text a)

-- the session, the bookmarks and the log after it
abbrev pub after : BookmarkedSession → ScriptLine → BookmarkedSession
after d (StorageLine c k flags exptime payload noreply) = record d { session = after_step d.session (storage_step c k flags exptime payload) }
after d (RetrievalLine ks with_cas) = record d { session = after_gets d.session ks }
after d (UpdateLine c k noreply) = record d { session = after_step d.session (keyed_step c k) }
after d (FlushLine delay noreply) = record d { session = after_step d.session (flush_step delay) }
after d (ActorLine a) = record d { session = after_step d.session (plain_actor a) }
after d (TuneLine t) = record d { session = after_step d.session (tune_step t) }
after d (DebugLine c) = record d { session = after_debug d.session c }
after d (QueryLine q k) = d
after d (BookmarkLine c name) = after_bookmark d c name
after d (BadLine a) = d
