-- What a driver counts.
-- Rule of this project: before its first event nothing; each count stays at its highest number.
use Rattle.std.specs.Prelude.{ℕ, ◌+◌, ◌-◌, ◌^◌, min}
use Rattle.rev_lead.specs.declared.tally.Tally.{Tally}
use Rattle.rev_lead.specs.declared.tally.Adjustment.{Adjustment}
use Rattle.rev_lead.specs.declared.tally.Adjustment.TheVariants as adjustments
use Rattle.rev_lead.specs.declared.tally.Inference.{Inference}
use Rattle.rev_lead.specs.declared.tally.Inference.TheVariants as inferences
use Rattle.rev_lead.specs.declared.agreeing.Agreement.{Agreement}
use Rattle.rev_lead.specs.declared.agreeing.Agreement.TheVariants.{Agrees, Disagrees}
use Rattle.rev_lead.specs.declared.agreeing.Disagreement.{Disagreement}
use Rattle.rev_lead.specs.declared.agreeing.Disagreement.TheVariants as kinds

-- nothing was counted
abbrev pub no_tally : Tally
no_tally = record {
  events = 0;
  evicted = 0;
  evicted_by_rules = 0;
  deleted_at_hit = 0;
  deleted_at_miss = 0;
  wanted = 0;
  wanted_expired = 0;
  wanted_unseen = 0;
  lifetimes = 0;
  flushed = 0;
  restored = 0;
  other_class = 0;
  refused_moves = 0;
  no_chunk = 0;
  other_answers = 0;
  other_evictions = 0;
}

-- one more, up to the highest number
abbrev pub raised : ℕ → ℕ
raised n = min (n + 1) (2 ^ 64 - 1)

-- one more key that went without a line
abbrev pub inferred : Inference → Tally → Tally
inferred inferences.AtHit t = record t { deleted_at_hit = raised t.deleted_at_hit }
inferred inferences.AtMiss t = record t { deleted_at_miss = raised t.deleted_at_miss }
inferred inferences.Wanted t = record t { wanted = raised t.wanted }
inferred inferences.Unseen t = record t { wanted_unseen = raised t.wanted_unseen }

-- one more adjustment of this kind
abbrev pub adjusted : Adjustment → Tally → Tally
adjusted adjustments.Evicted t = record t { evicted = raised t.evicted }
adjusted adjustments.ByRules t = record t { evicted_by_rules = raised t.evicted_by_rules }
adjusted (adjustments.Inferred i) t = inferred i t
adjusted adjustments.Expired t = record t { wanted_expired = raised t.wanted_expired }
adjusted adjustments.Lifetime t = record t { lifetimes = raised t.lifetimes }
adjusted adjustments.Flushed t = record t { flushed = raised t.flushed }
adjusted adjustments.Restored t = record t { restored = raised t.restored }

-- one more event with which the replay did not agree for this reason
abbrev pub disagreed : Disagreement → Tally → Tally
disagreed kinds.OtherClass t = record t { other_class = raised t.other_class }
disagreed kinds.RefusedMove t = record t { refused_moves = raised t.refused_moves }
disagreed kinds.NoChunk t = record t { no_chunk = raised t.no_chunk }
disagreed kinds.OtherAnswer t = record t { other_answers = raised t.other_answers }
disagreed kinds.OtherEviction t = record t { other_evictions = raised t.other_evictions }

-- one more event, and where the replay does not agree with it, one more of that disagreement
abbrev pub counted : Agreement → Tally → Tally
counted Agrees t = record t { events = raised t.events }
counted (Disagrees d) t = disagreed d (record t { events = raised t.events })
