-- What holds of each value of a cache.
use Rattle.std.proofs.Common.{◌≡◌, Bool, List, Contains, Option, Some, None, IfSome, inl, inr, sym, ap, subst}
use Rattle.std.specs.Prelude.{Result, Ok, Err, OnOk, OnErr}
use Rattle.std.specs.Map.{lookup, remove_entry}
use Rattle.lru.specs.LruCache.{LruCache, lru_cache, put_entries}
use Rattle.lru.proofs.CallerLemmas.{Contains-lookup, Contains-remove_entry, Contains-put_entries}

module _ {K V : Type 0} (P : V → Type 0) where
  -- it holds of what a look-up finds
  pub looked_up : (test : K → Bool) (es : List (K × V)) → ((x : K × V) → Contains es x → P x.1) → (o : Option V) → o ≡ lookup test es → IfSome o P
  looked_up test es all None e = tt
  looked_up test es all (Some v) e = let found = Contains-lookup test es v (sym e) in all (found.0, v) found.1

  -- of what is left after an entry went
  pub removed : (test : K → Bool) (es fs : List (K × V)) → fs ≡ remove_entry test es → ((x : K × V) → Contains es x → P x.1) → (x : K × V) → Contains fs x → P x.1
  removed test es fs same all x has = all x (Contains-remove_entry test es x (subst (λ (l : List (K × V)). Contains l x) same has))

  -- and after one came
  pub put : (eq : K → K → Bool) (c : LruCache K V) (k : K) (v : V) (fs : List (K × V)) → fs ≡ put_entries eq c k v → ((x : K × V) → Contains c.entries x → P x.1) → P v → (x : K × V) → Contains fs x → P x.1
  put eq c k v fs same all new x has = elim (Contains-put_entries eq c k v x (subst (λ (l : List (K × V)). Contains l x) same has)) [
    | inl old ↦ all x old
    | inr stored ↦ subst P (sym stored.0) new
  ]

  -- or didn't come, for want of memory
  pub tried : {E : Type 0} (eq : K → K → Bool) (c n : LruCache K V) (k : K) (v : V) (r : Result (Option V) E) → OnOk r (n ≡ lru_cache (put_entries eq c k v) c.cap) → OnErr r (n ≡ c)
      → ((x : K × V) → Contains c.entries x → P x.1) → P v → (x : K × V) → Contains n.entries x → P x.1
  tried eq c n k v (Ok old) ok err all new = put eq c k v n.entries (ap (λ (m : LruCache K V). m.entries) ok) all new
  tried eq c n k v (Err e) ok err all new = subst (λ (m : LruCache K V). (x : K × V) → Contains m.entries x → P x.1) (sym err) all
