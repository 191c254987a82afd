use Rattle.std.proofs.Common.{◌∙◌, ap}
use Rattle.rev_classes.specs.Limits.{fault_of}
use Rattle.rev_import.proofs.Usual.{usual_is_sound}
use Rattle.rev_import.proofs.setup.usual.Goals as goal

pub classes_of-classes-requires : goal.classes_of-classes-requires
classes_of-classes-requires c = ap fault_of c.config_of-config.ensures ∙ usual_is_sound c.args.pages c.args.temp_ttl c.requires.0 c.requires.1

pub returns-clause-sound : goal.returns-clause-sound
returns-clause-sound c = ap fault_of c.config_of-config.ensures ∙ usual_is_sound c.args.pages c.args.temp_ttl c.requires.0 c.requires.1
