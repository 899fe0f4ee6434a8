-- The declarations of a generated text.
use Rattle.std.proofs.Common.{◌≡◌, ℕ, zero, suc, ◌+◌, ◌*◌, ◌^◌, ◌<◌, ◌≤◌, false, List, [], ◌∷◌, ◌++◌, length, Ok, refl, sym, ap, ◌∙◌, subst, append_assoc, append-nil, length-append, arith}
use Rattle.std.specs.Prelude.{codes, All}
use Rattle.std.specs.List.{list_any}
use Rattle.std.specs.Str.{bytes_eq}
use Rattle.std.proofs.Math.Nat.{pow-suc}
use Rattle.std.proofs.Math.Pow.{pow_mono}
use Rattle.std.proofs.lemmas.Bool.Decides.{nat_tests}
use Rattle.sp_syntax.specs.declared.class.WordClass.TheVariants as the_word
use Rattle.sp_syntax.specs.declared.text.Declarations.{Declarations}
use Rattle.sp_syntax.specs.declared.text.Section.{Section}
use Rattle.sp_syntax.specs.Grammar.{IsDeclaration, AreDeclarations, AreAll}
use Rattle.sp_spelled.specs.Signs.{tight, line, IsWordText}
use Rattle.sp_spelled.specs.Shapes.{declaration_signs}
use Rattle.sp_spelled.specs.Written.{Written}
use Rattle.sp_spelled.proofs.Keywords.{variables_key, observations_key}
use Rattle.sp_spelled.proofs.Written.{written_nothing, deeper}
use Rattle.sp_model.specs.declared.parts.Decl.{Decl}
use Rattle.sp_declarations.specs.declared.declarations.Read.{Read}
use Rattle.sp_declarations.specs.declared.declarations.Declared.{Declared}
use Rattle.sp_declarations.specs.Steps.{in_turn}
use Rattle.sp_declarations.specs.Declarations.{declaration, declarations, declarations_of, no_decls, variable_limits, sight_limits}
use Rattle.sp_written.specs.Meanings.{list_signs}
use Rattle.sp_written.proofs.Names.{differs}
use Rattle.sp_written.proofs.Declared.{Declares, declares_one, declares_both, read_with, writes_sort, declared_ok, HasRoom}
use Rattle.sp_generated.specs.Signs.{variable_name, two_values, row_signs, variable_signs, gap_behind, variables_signs, observations_signs}
use Rattle.sp_generated.proofs.Facts.{eq_false, lacks_with}
use Rattle.sp_generated.proofs.Words.{word_text, variable_word, hint_word}
use Rattle.sp_generated.proofs.Scope.{decl, decls, decls_count, hint_decl, names_apart}

two_texts : All IsWordText two_values
two_texts zero d l = word_text (codes "off") (omega arith) refl
two_texts (suc zero) d l = word_text (codes "on") (omega arith) refl
two_texts (suc (suc k)) d l = absurd (omega arith)

-- what is read behind so many variables from the first on
abbrev pub read_rows : Read → ℕ → ℕ → Read
read_rows r i zero = r
read_rows r i (suc n) = read_rows (read_with r (variable_name i) two_values) (suc i) n

-- what was read has none of the names from that number on, and leaves room
record IsSoFar (r : Read) (i n : ℕ) : Type 0 where
  pub few : length r.decls + n ≤ 24
  pub points : r.points ≡ 2 ^ length r.decls
  pub new : (j : ℕ) → i ≤ j → j < 2 ^ 64 → list_any (bytes_eq (variable_name j)) r.names ≡ false
  pub hint : list_any (bytes_eq (codes "hint")) r.names ≡ false

room : (r : Read) (i n : ℕ) → i + n ≤ 64 → IsSoFar r i (suc n) → HasRoom variable_limits r (variable_name i) two_values
room r i n l h =
    let few = h.few in
    let small : 2 ^ suc (length r.decls) ≤ 2 ^ 24 = pow_mono {i = suc (length r.decls)} {j = 24} (omega arith) in
    let next : 2 ^ suc (length r.decls) ≡ 2 ^ length r.decls * 2 = pow-suc 2 (length r.decls) in
    let points : r.points * 2 ≤ 16777216 = subst (λ p. p * 2 ≤ 16777216) (sym h.points) (subst (λ p. p ≤ 16777216) next small) in
    record {
      few = eq_false (length r.decls) 24 (λ e. omega arith);
      points = grind (arith, nat_tests);
      new = h.new i (omega arith) (omega arith);
      values = (refl, refl, (refl, refl, tt));
    }

next_so_far : (r : Read) (i n : ℕ) → i + n ≤ 64 → IsSoFar r i (suc n) → IsSoFar (read_with r (variable_name i) two_values) (suc i) n
next_so_far r i n l h =
    let few = h.few in
    let long = length-append r.decls (decl i ∷ []) in
    let one_more : length (r.decls ++ decl i ∷ []) ≡ suc (length r.decls) = omega arith in
    record {
      few = omega arith;
      points = ap (λ p. p * 2) h.points ∙ sym (pow-suc 2 (length r.decls)) ∙ ap (λ k. 2 ^ k) (sym one_more);
      new = λ j m k. lacks_with r.names (variable_name i) (variable_name j) (h.new j (omega arith) k) (differs (variable_name j) (variable_name i) (names_apart j i k (omega arith) (omega arith)));
      hint = lacks_with r.names (variable_name i) (codes "hint") h.hint refl;
    }

rows_declared : (r : Read) (i n : ℕ) → i + n ≤ 64 → IsSoFar r i n → Declares variable_limits r (read_rows r i n) 1 (list_signs (row_signs variable_signs i n))
unfolding in_turn
rows_declared r i zero l h = deeper (AreAll IsDeclaration) _ [] 0 1 (omega arith) (written_nothing IsDeclaration (λ source ds. in_turn (declaration source variable_limits) r ds ≡ Ok r) (λ source. refl))
rows_declared r i (suc n) l h =
    declares_both variable_limits r (read_with r (variable_name i) two_values) (read_rows r i (suc n)) (variable_signs i (gap_behind n)) (list_signs (row_signs variable_signs (suc i) n)) 1
    (declares_one variable_limits r (variable_name i) (codes "off") (codes "on" ∷ []) (gap_behind n) (variable_word i (omega arith)) two_texts (room r i n (omega arith) h))
    (rows_declared (read_with r (variable_name i) two_values) (suc i) n (omega arith) (next_so_far r i n (omega arith) h))

rows_end : (r : Read) (i n : ℕ) → i + n ≤ 64 → IsSoFar r i n → IsSoFar (read_rows r i n) (i + n) 0
rows_end r i zero l h = let few = h.few in record { few = omega arith; points = h.points; new = λ j m k. h.new j (omega arith) k; hint = h.hint }
rows_end r i (suc n) l h = subst (λ k. IsSoFar (read_rows r i (suc n)) k 0) (let e : suc i + n ≡ i + suc n = omega arith in e) (rows_end (read_with r (variable_name i) two_values) (suc i) n (omega arith) (next_so_far r i n (omega arith) h))

rows_decls : (r : Read) (i n : ℕ) → (read_rows r i n).decls ≡ r.decls ++ decls i n
rows_decls r i zero = sym (append-nil r.decls)
rows_decls r i (suc n) = rows_decls (read_with r (variable_name i) two_values) (suc i) n ∙ append_assoc r.decls (decl i ∷ []) (decls (suc i) n)

module _ (n : ℕ) (some : 1 ≤ n) (few : n ≤ 24) where
  abbrev pub variables_read : Read
  variables_read = read_rows (no_decls []) 1 n

  abbrev pub sights_read : Read
  sights_read = read_with (no_decls variables_read.names) (codes "hint") two_values

  begun : IsSoFar (no_decls []) 1 n
  begun = record { few = omega arith; points = refl; new = λ j m k. refl; hint = refl }

  all_decls : variables_read.decls ≡ decls 1 n
  all_decls = rows_decls (no_decls []) 1 n

  some_decls : 0 < length variables_read.decls
  some_decls = let e = ap (length {A = Decl}) all_decls in let c = decls_count 1 n in omega arith

  pub variables_written : Written (AreDeclarations the_word.Variables) (λ source x. declarations source variable_limits [] x.declarations ≡ Ok variables_read) 2 (variables_signs n)
  variables_written = writes_sort the_word.Variables (codes "variables") variable_limits [] variables_read (list_signs (row_signs variable_signs 1 n)) line 1 variables_key some_decls (rows_declared (no_decls []) 1 n (omega arith) begun)

  pub observations_written : Written (AreDeclarations the_word.Observations) (λ source x. declarations source sight_limits variables_read.names x.declarations ≡ Ok sights_read) 2 observations_signs
  observations_written = writes_sort the_word.Observations (codes "observations") sight_limits variables_read.names sights_read (declaration_signs (codes "hint") two_values tight) line 1 observations_key (omega arith)
      (declares_one sight_limits (no_decls variables_read.names) (codes "hint") (codes "off") (codes "on" ∷ []) tight hint_word two_texts
      (record { few = refl; points = refl; new = (rows_end (no_decls []) 1 n (omega arith) begun).hint; values = (refl, refl, (refl, refl, tt)) }))

  pub declared_read : (source : List ℕ) (x y : Declarations) (sections : List Section) → declarations source variable_limits [] x.declarations ≡ Ok variables_read → declarations source sight_limits variables_read.names y.declarations ≡ Ok sights_read
      → declarations_of source (record { variables = x; observations = y; sections = sections }) ≡ Ok (record { variables = decls 1 n; sights = hint_decl ∷ [] })
  declared_read source x y sections h k = declared_ok source x y sections variables_read sights_read h k ∙ ap (λ ds. Ok (let d : Declared = record { variables = ds; sights = hint_decl ∷ [] } in d)) all_decls
