-- A step as contracts see it.
-- Rule of this project: which step of the model a request stands for.
use Rattle.std.specs.Prelude.{ℕ, List, Some}
use Rattle.rev_model.specs.Client as client
use Rattle.rev_model.specs.Actor as actor
use Rattle.rev_requests.specs.declared.payloads.Payload.{Payload}
use Rattle.rev_requests.specs.declared.payloads.Payload.TheVariants as payloads
use Rattle.rev_requests.specs.declared.clients.StoreVerb.{StoreVerb}
use Rattle.rev_requests.specs.declared.clients.StoreVerb.TheVariants as verbs
use Rattle.rev_requests.specs.declared.clients.JoinSide.{JoinSide}
use Rattle.rev_requests.specs.declared.clients.JoinSide.TheVariants as sides
use Rattle.rev_requests.specs.declared.clients.Arithmetic.{Arithmetic}
use Rattle.rev_requests.specs.declared.clients.Arithmetic.TheVariants as sums
use Rattle.rev_requests.specs.declared.clients.KeyCommand.{KeyCommand}
use Rattle.rev_requests.specs.declared.clients.KeyCommand.TheVariants as commands
use Rattle.rev_requests.specs.declared.clients.ClientStep.{ClientStep}
use Rattle.rev_requests.specs.declared.clients.ClientStep.TheVariants as clients
use Rattle.rev_requests.specs.declared.actors.ActorStep.{ActorStep}
use Rattle.rev_requests.specs.declared.actors.ActorStep.TheVariants as actors
use Rattle.rev_requests.specs.declared.steps.Step.{Step}
use Rattle.rev_requests.specs.declared.steps.Step.TheVariants as steps

-- data, or how many bytes were skipped
abbrev pub plain_payload : {A : Type 0} → Payload A → client.Payload
plain_payload (payloads.Bytes v) = client.Bytes v
plain_payload (payloads.Skipped n) = client.Skipped n

-- the four verbs that store
abbrev pub plain_verb : StoreVerb → client.Verb
plain_verb verbs.Set = client.Sets
plain_verb verbs.Add = client.Adds
plain_verb verbs.Replace = client.Replaces
plain_verb (verbs.Cas n) = client.Cases n

-- append and prepend
abbrev pub plain_side : JoinSide → client.Side
plain_side sides.Append = client.Appends
plain_side sides.Prepend = client.Prepends

-- incr and decr
abbrev pub plain_sum : Arithmetic → client.Sum
plain_sum (sums.Increment n) = client.Increases
plain_sum (sums.Decrement n) = client.Decreases

-- by how much
abbrev pub amount : Arithmetic → ℕ
amount (sums.Increment n) = n
amount (sums.Decrement n) = n

-- a command of one key
abbrev pub plain_keyed : KeyCommand → List ℕ → client.ClientStep
plain_keyed commands.Get key = client.Gets key
plain_keyed commands.Delete key = client.Deletes key
plain_keyed commands.Evict key = client.Evicts key
plain_keyed (commands.Touch exptime) key = client.Touches key exptime
plain_keyed (commands.Count a) key = client.Counts (plain_sum a) key (amount a)

-- a client's step
abbrev pub plain_client : {A : Type 0} → ClientStep A → client.ClientStep
plain_client (clients.Store verb key flags exptime payload) = client.Stores (plain_verb verb) key flags exptime (plain_payload payload)
plain_client (clients.Join side key payload) = client.Joins (plain_side side) key (plain_payload payload)
plain_client (clients.Keyed command key) = plain_keyed command key
plain_client (clients.FlushAll delay) = client.Flushes (Some delay)

-- a step of an actor or of the clock
abbrev pub plain_actor : ActorStep → actor.Step
plain_actor (actors.Pull c q) = actor.Pull c q
plain_actor actors.Bump = actor.Bump
plain_actor (actors.StartCrawl classes) = actor.CrawlStart classes
plain_actor (actors.Crawl c q) = actor.Crawl c q
plain_actor (actors.Reassign source target) = actor.Schedule source target
plain_actor actors.Advance = actor.Advance
plain_actor (actors.Clock now) = actor.Clock now
plain_actor (actors.TempTtl ttl) = actor.TempTtl ttl

-- any step
abbrev pub plain_step : {A : Type 0} → Step A → actor.Step
plain_step (steps.Client e) = actor.Client (plain_client e)
plain_step (steps.Actor a) = plain_actor a
plain_step (steps.Tune t) = actor.Tune t.hot_share t.warm_share t.hot_factor t.warm_factor
