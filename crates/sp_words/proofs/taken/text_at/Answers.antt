use Rattle.std.proofs.Common.{◌∙◌}
use Rattle.clap.specs.Words.{found_of, rows_of, first_of}
use Rattle.clap.proofs.WalkLemmas.{first_value-rows}
use Rattle.sp_words.proofs.ParserLemmas.{text_of}
use Rattle.sp_words.proofs.taken.text_at.Goals as goal

pub returns : goal.returns
returns c =
    text_of (first_of c.args.id.now (rows_of (found_of c.args.matches.now))) c.get_str.result
    (c.get_str.ensures ∙ first_value-rows (found_of c.args.matches.now) c.args.id.now)
