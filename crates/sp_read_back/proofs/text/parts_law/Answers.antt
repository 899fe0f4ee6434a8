use Rattle.std.proofs.Common.{ℕ, ◌^◌, ◌<◌, List, length, sym, ap, subst, arith}
use Rattle.std.proofs.Math.Facts.{Fits-lt-pow}
use Rattle.sp_reader.specs.Sources.{Reads}
use Rattle.sp_read_back.proofs.Lengths.{of_model}
use Rattle.sp_read_back.proofs.Models.{read_back}
use Rattle.sp_read_back.proofs.text.parts_law.Goals as goal

pub returns : goal.returns
returns c =
    let p = c.args.parts.now in
    let few : c.args.count < 2 ^ 64 = Fits-lt-pow c.ranges.count in
    let lines = of_model p in
    let long = ap (λ (b : List ℕ). length b) c.requires.text in
    subst (λ b. Reads b p) (sym c.requires.text) (read_back p c.requires.model c.functions_law.ensures (omega (arith, few, lines, long, c.requires.count)))
