-- Books with more editions beside the published list.
use Rattle.std.proofs.Common.{◌≡◌, Bool, true, false, cond, List, sym, ap, subst}
use mathlib.Core.List.{IsPrefix}
use Rattle.logbook.specs.Pages.{Book}
use Rattle.sp_value.specs.Editions.{EditionParts}
use Rattle.sp_core.specs.Books.{BookParts, IsBook}
use Rattle.sp_publish.specs.Published.{PublishedList}
use Rattle.sp_publish.proofs.Prefixes.{prefix_self, prefix_trans}
use Rattle.sp_workers.specs.Shared.{IsBeginning, AreShared}
use Rattle.sp_workers.specs.Sections.{HasSameEvents}

-- a mark changes no event
pub taken_same : (c : Bool) (b d : BookParts) (marks : List Bool) → d ≡ cond c b (record b { taken = marks }) → HasSameEvents b d
taken_same true b d marks same = record { task = ap (λ (x : BookParts). x.task) same; history = ap (λ (x : BookParts). x.history) same; editions = ap (λ (x : BookParts). x.editions) same }
taken_same false b d marks same = record { task = ap (λ (x : BookParts). x.task) same; history = ap (λ (x : BookParts). x.history) same; editions = ap (λ (x : BookParts). x.editions) same }

-- ---- what is shared
pub prefix_same : (b d : BookParts) → HasSameEvents b d → IsPrefix b.editions d.editions
prefix_same b d same = subst (λ (es : List EditionParts). IsPrefix b.editions es) (sym same.editions) (prefix_self b.editions)

pub begins_on : (p : PublishedList) (b d : BookParts) → IsBeginning p b → IsPrefix b.editions d.editions → IsBeginning p d
begins_on p b d begins more = record { editions = prefix_trans p.editions b.editions d.editions begins.editions more; going = begins.going }

pub shared_book : (list : Book) (first : EditionParts) (b d : BookParts) (p : PublishedList) → AreShared list first b p → IsBook d → IsPrefix b.editions d.editions → AreShared list first d p
shared_book list first b d p are is more = record { book = is; beginning = begins_on p b d are.beginning more; named = are.named }
