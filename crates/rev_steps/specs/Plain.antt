-- A step as contracts see it.
-- Rule of this project: which step of the model a request stands for, passed on for callers.
pub use Rattle.rev_requests.specs.Plain.{plain_payload, plain_verb, plain_side, plain_sum, amount, plain_keyed, plain_client, plain_actor, plain_step}
