use Rattle.std.proofs.Common.{◌≡◌, ap, Err}
use Rattle.sp_filed.specs.declared.read.Unread.TheVariants.{At}
use Rattle.sp_filed.proofs.PlanFiles.{rest_told}
use Rattle.sp_filed.proofs.read.read_rest.Goals as goal

pub returns-in-Err-clause-err : goal.returns-in-Err-clause-err
returns-in-Err-clause-err c = λ left kind e.
    let reason : c.unread_for.result ≡ At left kind = cc e in
    rest_told c.args.has_values c.args.model c.args.text.now c.in-Err.stop left kind (c.unread_for.ensures left kind reason) (λ n same. c.in-Err.ensures.shape n (ap Err same)) (λ n same. c.in-Err.ensures.sample n (ap Err same))
