use Rattle.std.proofs.Common.{string_bytes, ◌∙◌, refl}
use Rattle.sp_gen.specs.Models.{generated_text}
use Rattle.sp_gen.proofs.Lists.{five}
use Rattle.sp_gen.proofs.models.generated.Goals as goal

pub returns : goal.returns
unfolding generated_text
returns c =
    five (string_bytes c.push_declarations.new.text) (string_bytes c.push_opening.new.text) (string_bytes c.push_actions.new.text) (string_bytes c.push_rewards.new.text) (string_bytes c.push_str.new.self) _ _ _ _ _
    (c.in_ok-push_declarations.ensures ∙ rw c.new-text.ensures.bytes refl) c.in_ok-push_opening.ensures c.in_ok-push_actions.ensures c.in_ok-push_rewards.ensures c.in_ok-push_str.ensures.bytes
