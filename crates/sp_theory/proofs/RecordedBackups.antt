-- Each recorded backup of a run is close to the exact backup.
use Rattle.std.proofs.Common.{◌≡◌, ℕ, ◌^◌, ◌<◌, List, [], ◌∷◌, length, get_or, sym, ap, ◌∙◌}
use Rattle.std.specs.Prelude.{◌+ℤ◌, ◌≤ℤ◌, All}
use Rattle.sp_theory.specs.Sums.{times}
use Rattle.sp_theory.specs.Points.{IsPoint}
use Rattle.sp_theory.specs.Draws.{q}
use Rattle.sp_theory.specs.Model.{Vector, IsLawful, least_return, divisions}
use Rattle.sp_theory.specs.Plan.{record_at, link_of}
use Rattle.sp_theory.specs.Values.{leaf_member, Edition, dot, total}
use Rattle.sp_theory.specs.Backup.{estimate, link_at, candidate, choice, IsBackup, tick_bound}
use Rattle.sp_theory.specs.Book.{Task, Book, Event, settle, publish, prune, end, IsMember, editions, settled_record, Allowed, after_event}
use Rattle.sp_theory.specs.Runs.{IsHistory}
use Rattle.sp_theory.specs.Laws.{IsClose, AllClose}
use Rattle.sp_theory.proofs.Whole.{≤ℤ_trans}
use Rattle.sp_theory.proofs.Weighing.{le_same}
use Rattle.sp_theory.proofs.Steps.{step_same}
use Rattle.sp_theory.proofs.Returns.{from_least}
use Rattle.sp_theory.proofs.Greatest.{greatest_case}
use Rattle.sp_theory.proofs.Backups.{backup_low, backup_high}
use Rattle.sp_theory.proofs.Links.{links_at-point}
use Rattle.sp_theory.proofs.Sound.{IsKept, leaf_is_member, sound_after}
use Rattle.sp_theory.proofs.Tidy.{IsTidy, tidy_after}

module _ (t : Task) (lawful : IsLawful t.model) (b : Book) (sound : IsKept t b) (tidy : IsTidy t b) (k e a : ℕ) (links : List ℕ) (exists : e < length (editions b)) where
  abbrev base : Edition
  base = get_or (editions b) e b.latest

  module _ (backup : IsBackup t.model base (t.samples k) a links) where
    -- the vector is that of the backup
    settled_is : (settled_record t b a links).vector ≡ candidate t.model base (t.samples k) (choice t.model base (t.samples k))
    unfolding candidate link_at
    settled_is = (λ h s. step_same t.model a _ (λ seen. (link_at t.model base (t.samples k) a seen).vector) s (λ seen next o n. λ h. (ap (λ (n : ℕ). (record_at t.model b.records n).vector) (ap (λ (xs : List ℕ). link_of t.model xs seen) backup.1 ∙ links_at-point t.model base (t.samples k) a seen o) ∙ sym (found seen).1) h next) h)
        ∙ ap (candidate t.model base (t.samples k)) backup.0
      where
        found : (seen : List ℕ) → IsMember t.model b.records (link_at t.model base (t.samples k) a seen)
        found seen = greatest_case (λ x. estimate t.model (t.samples k) a seen x.vector) (λ x. x.id) (IsMember t.model b.records) (leaf_member t.model) base (leaf_is_member t b sound) (sound.members e b.latest exists)

    ranged : All (λ x. (s : List ℕ) → IsPoint t.model.sizes s → least_return t.model ≤ℤ x.vector s) base
    ranged j d less s p = let member = sound.members e b.latest exists j d less in ≤ℤ_trans (from_least t.model lawful b.records sound.plan sound.values (get_or base j d).id s member.0) (le_same (λ h. sym member.1 h s))

    pub close : IsClose t b (settle k e a links)
    unfolding IsClose
    close = (
      ≤ℤ_trans (le_same (ap (λ (v : Vector). times (q ^ divisions t.model) (dot t.model (t.samples k) v)) settled_is)) (backup_low t.model lawful (t.samples k) base (tidy.filled e b.latest exists) ranged),
      ≤ℤ_trans (backup_high t.model lawful (t.samples k) base (tidy.filled e b.latest exists) ranged) (le_same (ap (λ (v : Vector). times (q ^ divisions t.model) (dot t.model (t.samples k) v +ℤ times (tick_bound t.model) (total t.model (t.samples k)))) (sym settled_is))),
    )

pub close_event : (t : Task) (lawful : IsLawful t.model) (b : Book) (e : Event) → IsKept t b → IsTidy t b → Allowed t b e → IsClose t b e
unfolding Allowed IsClose
close_event t lawful b (settle k e a links) sound tidy (going, within, exists, backup) = close t lawful b sound tidy k e a links exists backup
close_event t lawful b publish sound tidy allowed = tt
close_event t lawful b (prune pairs) sound tidy allowed = tt
close_event t lawful b end sound tidy allowed = tt

pub all_close : (t : Task) (lawful : IsLawful t.model) → 0 < t.beliefs → (b : Book) (es : List Event) → IsKept t b → IsTidy t b → IsHistory t b es → AllClose t b es
unfolding IsHistory AllClose
all_close t lawful some b [] sound tidy history = tt
all_close t lawful some b (e ∷ es) sound tidy (allowed, rest) = (close_event t lawful b e sound tidy allowed, all_close t lawful some (after_event t b e) es (sound_after t lawful b e sound allowed) (tidy_after t lawful b e some sound tidy allowed) rest)
