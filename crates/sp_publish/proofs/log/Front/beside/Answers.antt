use Rattle.std.proofs.Common.{◌≡◌, ◌≤◌, ap, sym, subst, List}
use mathlib.Core.List.{IsPrefix}
use Rattle.logbook.specs.Pages.{Book}
use Rattle.sp_publish.specs.declared.item.Item.{Item}
use Rattle.sp_publish.specs.Published.{PublishedList, ListGoesOn, size_of}
use Rattle.sp_publish.specs.Logs.{IsLegalLog, published_by}
use Rattle.sp_publish.proofs.LogLemmas.{shorter_goes_on}
use Rattle.sp_publish.proofs.log.Front.beside.Goals as goal

-- two fronts of one list, of whose logs both are beginnings of one
fronts_go_on : (x y : PublishedList) (b c : Book) (xs ys zs : List Item) → published_by b xs ≡ x → published_by c ys ≡ y → y.list ≡ x.list → IsLegalLog xs → IsLegalLog ys → IsPrefix xs zs → IsPrefix ys zs
    → size_of x ≤ size_of y → ListGoesOn x y
fronts_go_on x y b c xs ys zs is_x is_y one hx hy px py le =
    let same : c ≡ b = cc (one, is_x, is_y) in
    let there : published_by b ys ≡ y = subst (λ (d : Book). published_by d ys ≡ y) same is_y in
    let short : size_of (published_by b xs) ≤ size_of (published_by b ys) =
    subst (λ (t : PublishedList). size_of t ≤ size_of (published_by b ys)) (sym is_x) (subst (λ (t : PublishedList). size_of x ≤ size_of t) (sym there) le) in
    subst (λ (t : PublishedList). ListGoesOn t y) is_x (subst (λ (t : PublishedList). ListGoesOn (published_by b xs) t) there (shorter_goes_on b xs ys zs px py hx hy short))

pub returns-clause-this : goal.returns-clause-this
returns-clause-this c le =
    let mine : IsPrefix c.self.inside.seen.log c.learn.new.self.log = subst (λ (l : List Item). IsPrefix l c.learn.new.self.log) (ap (λ s. s.log) c.again-both.ensures) c.learn.ensures.2 in
    fronts_go_on c.args.self.now c.args.other.now c.self.inside.seen.book c.other.inside.seen.book c.self.inside.seen.log c.other.inside.seen.log c.learn.new.self.log c.self.view_is c.other.view_is c.requires c.self.invariant c.other.invariant mine c.learn.ensures.3 le

pub returns-clause-that : goal.returns-clause-that
returns-clause-that c le =
    let mine : IsPrefix c.self.inside.seen.log c.learn.new.self.log = subst (λ (l : List Item). IsPrefix l c.learn.new.self.log) (ap (λ s. s.log) c.again-both.ensures) c.learn.ensures.2 in
    fronts_go_on c.args.other.now c.args.self.now c.other.inside.seen.book c.self.inside.seen.book c.other.inside.seen.log c.self.inside.seen.log c.learn.new.self.log c.other.view_is c.self.view_is (sym c.requires) c.other.invariant c.self.invariant c.learn.ensures.3 mine le
