-- What holds before the first section.
use Rattle.std.proofs.Common.{◌≡◌, ℕ, zero, suc, ◌+◌, ◌*◌, ◌<◌, ◌≤◌, List, [], ◌∷◌, ◌++◌, refl, sym, ap, ap₂, ◌∙◌, arith, length, get_or, take, append-nil, append_assoc}
use Rattle.std.specs.Prelude.{All}
use Rattle.std.proofs.lemmas.List.{map_more}
use Rattle.sp_dd.specs.Func.{IsScope}
use Rattle.sp_dd.specs.Points.{AllSizes}
use Rattle.sp_model.specs.declared.parts.Decl.{Decl}
use Rattle.sp_model.specs.Kept.{IsDecl}
use Rattle.sp_model.specs.Problem.{sizes_of, twice_each}
use Rattle.sp_model.proofs.SlotPoints.{length-doubled, size-unprimed, size-primed}
use Rattle.sp_model.proofs.Counts.{length-sizes_of}
use Rattle.sp_trees.specs.Good.{shape_for}
use Rattle.sp_declarations.specs.declared.declarations.Declared.{Declared}
use Rattle.sp_checks.specs.Sections.{begun}
use Rattle.sp_declarations.specs.Kept.{AreDeclared}
use Rattle.sp_checks.specs.Kept.{IsReadingState}

tail_of : (d : Decl) (ds : List Decl) → All IsDecl (d ∷ ds) → All IsDecl ds
tail_of d ds h k x l = h (suc k) x (omega arith)

seen_sizes : (ds : List Decl) → All IsDecl ds → AllSizes (sizes_of ds)
seen_sizes [] h = tt
seen_sizes (d ∷ ds) h = let one = h 0 d (omega arith) in ((let s = one.some in omega arith), one.few, seen_sizes ds (tail_of d ds h))

all_sizes : (ds js : List Decl) → All IsDecl ds → All IsDecl js → AllSizes (twice_each (sizes_of ds) ++ sizes_of js)
all_sizes [] js h k = seen_sizes js k
all_sizes (d ∷ ds) js h k =
    let one = h 0 d (omega arith) in let some = one.some in
    (omega arith, one.few, (omega arith, one.few, all_sizes ds js (tail_of d ds h) k))

pub declared_scope : (variables sights : List Decl) → AreDeclared variables sights → IsScope (shape_for variables sights)
declared_scope variables sights k =
    let ks = sizes_of variables in
    let js = sizes_of sights in
    let long : length (twice_each ks ++ js) ≡ 2 * length variables + length sights = length-doubled ks js ∙ ap₂ (λ a b. 2 * a + b) (length-sizes_of variables) (length-sizes_of sights) in
    let few = k.few_variables in let less = k.few_sights in
    record {
      few = omega arith;
      paired = omega arith;
      each = all_sizes variables sights k.variables_kept k.sights_kept;
      equal = λ i l. let here : i < length ks = (let e = length-sizes_of variables in omega arith) in size-unprimed ks js i here ∙ sym (size-primed ks js i here);
    }

pub begun_state : (d : Declared) → AreDeclared d.variables d.sights → IsReadingState (begun d)
begun_state d k = record {
  env = record {
    env_kept = record { shape = refl; scope = declared_scope d.variables d.sights k; dds = λ i x l. absurd (omega arith) };
    declared = k;
  };
  names = refl;
  different = λ i j x l m. absurd (omega arith);
  few = omega arith;
  actions = λ i x l. absurd (omega arith);
  init = tt;
  reward = tt;
  discount = tt;
}

-- ---- the sizes of the slots
take_all : (ds : List Decl) (i : ℕ) → length ds ≤ i → take i ds ≡ ds
take_all [] zero h = refl
take_all [] (suc i) h = refl
take_all (d ∷ ds) zero h = absurd (omega arith)
take_all (d ∷ ds) (suc i) h = ap (λ xs. d ∷ xs) (take_all ds i (omega arith))

sizes_turn : (ds : List Decl) (i : ℕ) (d : Decl) → i < length ds → sizes_of (take (i + 1) ds) ≡ sizes_of (take i ds) ++ length (get_or ds i d).values ∷ []
sizes_turn ds i d l = map_more (λ (d : Decl). length d.values) ds i d l

doubled-push : (ks : List ℕ) (k : ℕ) → twice_each (ks ++ k ∷ []) ≡ twice_each ks ++ k ∷ k ∷ []
doubled-push [] k = refl
doubled-push (j ∷ ks) k = ap (λ xs. j ∷ j ∷ xs) (doubled-push ks k)

pub once_more : (old before new : List ℕ) (ds : List Decl) (i n : ℕ) (d : Decl) → i < length ds → d ≡ get_or ds i d → before ≡ old ++ sizes_of (take i ds) → n ≡ length d.values → new ≡ before ++ n ∷ [] → new ≡ old ++ sizes_of (take (i + 1) ds)
once_more old before new ds i n d l is b e h =
    h ∙ ap₂ (λ xs k. xs ++ k ∷ []) b (e ∙ ap (λ (d : Decl). length d.values) is) ∙ append_assoc old (sizes_of (take i ds)) (length (get_or ds i d).values ∷ []) ∙ ap (λ xs. old ++ xs) (sym (sizes_turn ds i d l))

pub twice_more : (old before new : List ℕ) (ds : List Decl) (i n : ℕ) (d : Decl) → i < length ds → d ≡ get_or ds i d → before ≡ old ++ twice_each (sizes_of (take i ds)) → n ≡ length d.values → new ≡ before ++ n ∷ n ∷ [] → new ≡ old ++ twice_each (sizes_of (take (i + 1) ds))
twice_more old before new ds i n d l is b e h =
    let k = length (get_or ds i d).values in
    let en : n ≡ k = e ∙ ap (λ (d : Decl). length d.values) is in
    h ∙ ap₂ (λ xs v. xs ++ v ∷ v ∷ []) b en ∙ append_assoc old (twice_each (sizes_of (take i ds))) (k ∷ k ∷ []) ∙ ap (λ xs. old ++ xs) (sym (ap twice_each (sizes_turn ds i d l) ∙ doubled-push (sizes_of (take i ds)) k))

pub once_none : (old : List ℕ) (ds : List Decl) → old ≡ old ++ sizes_of (take 0 ds)
once_none old ds = sym (append-nil old)

pub twice_none : (old : List ℕ) (ds : List Decl) → old ≡ old ++ twice_each (sizes_of (take 0 ds))
twice_none old ds = sym (append-nil old)

pub once_all : (old new : List ℕ) (ds : List Decl) (i : ℕ) → length ds ≤ i → new ≡ old ++ sizes_of (take i ds) → new ≡ old ++ sizes_of ds
once_all old new ds i l h = h ∙ ap (λ xs. old ++ sizes_of xs) (take_all ds i l)

pub twice_all : (old new : List ℕ) (ds : List Decl) (i : ℕ) → length ds ≤ i → new ≡ old ++ twice_each (sizes_of (take i ds)) → new ≡ old ++ twice_each (sizes_of ds)
twice_all old new ds i l h = h ∙ ap (λ xs. old ++ twice_each (sizes_of xs)) (take_all ds i l)
