-- How the lists of a ledger change.
use Rattle.std.proofs.Common.{◌≡◌, ◌∙◌, List, [], ◌∷◌, ◌++◌, length, map, Bool, eqb}
use Rattle.std.specs.Prelude.{ℤ}
use Rattle.std.specs.List.{range_with_len}
use Rattle.sp_value.specs.declared.editions.Member.{Member}
use Rattle.sp_ledger.specs.Accounts.{AreRaised, AreLifted, raised_at, lifted_to}
use Rattle.sp_ledger.proofs.Changes.{raised_is, lifted_is}
use Rattle.sp_core.specs.Ledgers.{LedgerContents, with_member}

-- a member entered, where the slices that were read and written are the lists of the contents
pub with_member_is : (c : LedgerContents) (x : Member) (first : Bool) (ws ls vs old news final : List ℤ) (flags newf ends : List Bool) (grown : List Member)
    → first ≡ eqb (length c.grown) 0
    → AreRaised ws ls flags newf → ws ≡ c.worths → ls ≡ c.latest_values → flags ≡ c.improved
    → AreLifted first vs old news → vs ≡ c.worths → old ≡ c.grown_values
    → grown ≡ c.grown ++ x ∷ [] → ends ≡ newf → final ≡ news
    → record c { grown = grown; improved = ends; grown_values = final } ≡ with_member c x
with_member_is c x first ws ls vs old news final flags newf ends grown e1 raised e2 e3 e4 lifted e5 e6 e7 e8 e9 =
    let flags_is = e8 ∙ raised_is ws ls flags newf raised ∙ (λ i. map (raised_at (e2 i) (e3 i) (e4 i)) (range_with_len 0 (length (e4 i)))) in
    let values_is = e9 ∙ lifted_is first vs old news lifted ∙ (λ i. map (lifted_to (e1 i) (e5 i) (e6 i)) (range_with_len 0 (length (e6 i)))) in
    (λ i. let r : LedgerContents = record c { grown = e7 i; improved = flags_is i; grown_values = values_is i } in r)
