-- Why a key left, and what tells it.
-- Rule of this project: the log comes first. Where a step stands for what the log says or shows, or for what is inferred
-- of it, its role decides. Else the rules' cause does, and what the event says of the item that it looks up.
use Rattle.std.specs.Prelude.{Bool, true, false, if◌then◌else◌, Option, Some, None}
use Rattle.rev_lead.specs.declared.role.Role.{Role}
use Rattle.rev_lead.specs.declared.role.Role.TheVariants as roles
use Rattle.rev_model.specs.declared.Cause.{Cause}
use Rattle.rev_model.specs.declared.Cause.TheVariants as causes
use Rattle.rev_evidence.specs.declared.verdict.Verdict.{Verdict}
use Rattle.rev_evidence.specs.declared.verdict.Reason.{Reason}
use Rattle.rev_evidence.specs.declared.verdict.Reason.TheVariants as reasons
use Rattle.rev_evidence.specs.declared.verdict.Evidence.{Evidence}
use Rattle.rev_evidence.specs.declared.verdict.Evidence.TheVariants as evidence
use Rattle.rev_evidence.specs.declared.verdict.Said.{Said}
use Rattle.rev_evidence.specs.declared.verdict.Said.TheVariants as said

-- the log says so
abbrev pub is_logged : Evidence → Bool
is_logged evidence.Logged = true
is_logged e = false

-- what tells it is that later lines are as if it was so
abbrev pub is_inferred : Evidence → Bool
is_inferred evidence.Inferred = true
is_inferred e = false

-- that this is why, and that tells it
abbrev pub told : Reason → Evidence → Verdict
told r e = record { reason = r; evidence = e }

-- of an item that the rules evicted: by the store that the log has behind an eviction, or by another step
abbrev pub evicted : Role → Evidence
evicted roles.Evicting = evidence.Logged
evicted r = evidence.Replayed

-- of a dead item that a look-up met: what the log says it was, or that it was flushed where a step of the event did that,
-- or that its lifetime was over
abbrev pub met_dead : Said → (flushed : Bool) → Verdict
met_dead said.Flushed flushed = told reasons.Flushed evidence.Logged
met_dead said.Expired flushed = told reasons.Expired evidence.Logged
met_dead said.Other flushed = told (if flushed then reasons.Flushed else reasons.Expired) evidence.Replayed

-- of a key that was deleted: by a line of the log, or by another step
abbrev pub deleted : Role → Evidence
deleted roles.Event = evidence.Logged
deleted r = evidence.Replayed

-- by the cause that the rules give; which items lie in the page that a server moves is not in its log, so what the page
-- mover evicts is inferred
abbrev pub by_cause : Role → Cause → Said → (flushed : Bool) → Verdict
by_cause r causes.Evicted w f = told reasons.Evicted (evicted r)
by_cause r causes.ReclaimedByHit w f = met_dead w f
by_cause r causes.ReclaimedByPull w f = told reasons.Expired evidence.Replayed
by_cause r causes.ReclaimedByCrawler w f = told reasons.Expired evidence.Replayed
by_cause r causes.ReclaimedByMover w f = told reasons.Expired evidence.Replayed
by_cause r causes.EvictedByMover w f = told reasons.EvictedByMover evidence.Inferred
by_cause r causes.DroppedByFailedSet w f = told reasons.DroppedByFailedSet evidence.Logged
by_cause r causes.Deleted w f = told reasons.Deleted (deleted r)

-- of a key that a later line shows to be gone: by the page mover, where a page of its class moved, or else by a delete
abbrev pub inferred : (moved : Bool) → Verdict
inferred moved = told (if moved then reasons.EvictedByMover else reasons.Deleted) evidence.Inferred

-- of a key that left at a step of this role, with this cause, where the event says this, and a step of it flushed an item
-- or not; nothing where the step restores a key that the log shows
abbrev pub verdict_of : Role → Cause → Said → (flushed : Bool) → Option Verdict
verdict_of roles.Restore c w f = None
verdict_of roles.Eviction c w f = Some (told reasons.Evicted evidence.Logged)
verdict_of (roles.Inferred shown moved) c w f = Some (inferred moved)
verdict_of roles.Expiry c w f = Some (told reasons.Expired evidence.Replayed)
verdict_of roles.Outside c w f = Some (told reasons.Outside evidence.Replayed)
verdict_of r c w f = Some (by_cause r c w f)
