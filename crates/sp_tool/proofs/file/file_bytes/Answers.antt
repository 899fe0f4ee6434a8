use Rattle.std.proofs.Common.{◌≡◌, ◌∙◌, ap, rules}
use Rattle.sp_tool.specs.Lines.{too_long_line}
use Rattle.sp_tool.proofs.TableLemmas.{some_longer}
use Rattle.sp_tool.proofs.file.file_bytes.Goals as goal

pub returns-in_ok-line-in-Err-TooLong-clause-fault : goal.returns-in_ok-line-in-Err-TooLong-clause-fault
returns-in_ok-line-in-Err-TooLong-clause-fault g c =
    let limit : c.in-Err-TooLong.limit ≡ c.args.limit = search rules in
    let longer = some_longer ((g.S.Store.folder c.args.store.now).content c.args.file.now) c.args.limit (λ bytes told. search rules) in
    (longer.0, longer.1, longer.2, c.in_ok-line-in-Err-TooLong.ensures ∙ ap (too_long_line c.args.file.now) limit)
