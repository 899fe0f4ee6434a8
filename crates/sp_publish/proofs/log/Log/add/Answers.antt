use Rattle.std.proofs.Common.{◌≡◌, ℕ, ◌==◌, Bool, true, MatchBool, List, [], ◌∷◌, ◌++◌, length, ap, sym, ◌∙◌, subst, arith}
use Rattle.std.proofs.lemmas.Bool.Decides.{nat_tests}
use Rattle.sp_publish.specs.declared.item.Item.{Item}
use Rattle.sp_publish.specs.Published.{PublishedList, size_of}
use Rattle.sp_publish.specs.Logs.{IsLegalLog, MayFollow, published_by}
use Rattle.sp_publish.specs.Rules.{head_of}
use Rattle.sp_publish.proofs.Adding.{adds_moves}
use Rattle.sp_publish.proofs.LogLemmas.{legal_more, size_is, added_is, added_size, added_list}
use Rattle.sp_publish.proofs.log.Log.add.Goals as goal

-- the first of two cases, where the numbers are equal
first_case : (A B : Type 0) (n m : ℕ) → n ≡ m → MatchBool (n == m) A B → A
first_case A B n m e h =
    let yes : (n == m) ≡ true = grind (arith, nat_tests) in subst (λ (b : Bool). MatchBool b A B) yes h

pub compare_exchange-found-requires : goal.compare_exchange-found-requires
compare_exchange-found-requires g c =
    let h = c.self.invariant in
    let seen = c.seen-seen.ensures in
    let pen = c.no_pen-pen.ensures in
    let offer = c.plain-offer.ensures in
    let log : List Item = c.seen-seen.result.log in
    let book : c.seen-seen.result.book ≡ c.self.inside.head.book = ap (λ (p : PublishedList). p.list) seen.told ∙ sym (ap (λ w. w.book) h.0) in
    let told : published_by c.seen-seen.result.book log ≡ c.args.self.now = seen.told ∙ c.self.view_is in
    let len : length log ≡ c.self.inside.size = subst (λ (p : PublishedList). length log ≡ size_of p) seen.told (size_is c.seen-seen.result.book log seen.legal.closed) ∙ sym h.1 in
    let may : MayFollow (published_by c.seen-seen.result.book log) (g.M.Plain.ask c.args.about.now) = subst (λ (p : PublishedList). MayFollow p (g.M.Plain.ask c.args.about.now)) (sym told) c.requires.legal in
    let legal : IsLegalLog (log ++ g.M.Plain.ask c.args.about.now ∷ []) = legal_more c.seen-seen.result.book log (g.M.Plain.ask c.args.about.now) seen.legal may in (
      ap (λ w. w.tracked) h.0,
      book,
      pen.0 ∙ book,
      offer.0,
      rw (ap (λ w. w.key) h.0, pen.1, offer.1, offer.3 ∙ c.requires.plain) (adds_moves log (g.M.Plain.ask c.args.about.now) c.self.inside.size len legal),
    )

pub invariant_of-self : goal.invariant_of-self
invariant_of-self g c =
    let h = c.self.invariant in
    let seen = c.seen-seen.ensures in
    let x = c.compare_exchange-found.ensures in
    let step = first_case _ _ c.compare_exchange-found.result c.self.inside.size c.if-found-size.false x.7 in
    let list = ap (λ (p : PublishedList). p.list) c.of.ensures ∙ (x.0 ∙ ap (λ (p : PublishedList). p.list) seen.told) in (
      h.0 ∙ ap (λ b. head_of b) (sym list),
      added_size c.seen-seen.result.book c.compare_exchange-found.new.seen.book c.seen-seen.result.log c.compare_exchange-found.new.seen.log c.plain-offer.result.ask c.self.inside.front c.of.result c.self.inside.size seen.told c.of.ensures step.0 seen.legal.closed step.1.closed h.1,
    )

pub returns-clause-added : goal.returns-clause-added
returns-clause-added g c =
    let seen = c.seen-seen.ensures in
    let x = c.compare_exchange-found.ensures in
    let step = first_case _ _ c.compare_exchange-found.result c.self.inside.size c.if-found-size.false x.7 in
    added_is c.seen-seen.result.book c.compare_exchange-found.new.seen.book c.seen-seen.result.log c.compare_exchange-found.new.seen.log c.plain-offer.result.ask (g.M.Plain.ask c.args.about.now) c.self.inside.front c.args.self.now c.of.result seen.told c.self.view_is x.0 step.0 c.plain-offer.ensures.1 c.of.ensures

pub returns-clause-known : goal.returns-clause-known
returns-clause-known g c =
    let seen = c.seen-seen.ensures in
    let x = c.compare_exchange-found.ensures in
    let step = first_case _ _ c.compare_exchange-found.result c.self.inside.size c.if-found-size.false x.7 in
    added_list c.seen-seen.result.book c.compare_exchange-found.new.seen.book c.seen-seen.result.log c.compare_exchange-found.new.seen.log c.plain-offer.result.ask (g.M.Plain.ask c.args.about.now) c.self.inside.front c.args.self.now c.of.result seen.told c.self.view_is x.0 step.0 c.plain-offer.ensures.1 c.of.ensures seen.legal c.requires.legal
