-- The commands as they are put together for the parser of command lines.
use Rattle.std.proofs.Common.{◌≡◌, true, refl}
use Rattle.clap.specs.Words.{is_simple, is_simple_and_free}
use Rattle.clap.proofs.OnLiterals.{clap_on_literals}
use Rattle.sp_words.specs.Apps.{tool_app}

pub tool_is_simple : is_simple tool_app ≡ true
unfolding clap_on_literals
tool_is_simple = refl

pub tool_is_free : is_simple_and_free tool_app ≡ true
unfolding clap_on_literals
tool_is_free = refl
