use Rattle.std.proofs.Common.{string_bytes}
use Rattle.sp_gen.specs.Models.{declarations}
use Rattle.sp_gen.proofs.Lists.{three}
use Rattle.sp_gen.proofs.models.push_declarations.Goals as goal

pub returns : goal.returns
unfolding declarations
returns c = three (string_bytes c.args.text.now) (string_bytes c.push_str.new.self) (string_bytes c.push_each.new.text) (string_bytes c.push_str-2.new.self) _ _ _ c.in_ok-push_str.ensures.bytes c.in_ok-push_each.ensures c.in_ok-push_str-2.ensures.bytes
