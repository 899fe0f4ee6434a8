-- The canonical text of a model has whole lines, none of which is the one that ends a model.
use Rattle.std.proofs.Common.{◌≡◌, ◌≢◌, ℕ, zero, suc, ◌+◌, ◌-◌, ◌*◌, ◌/◌, List, [], ◌∷◌, ◌++◌, length, get_or, map, Bool, true, false, ap, sym, arith, codes, subst}
use Rattle.std.specs.Prelude.{pos, cond, nat_lt, All, IsTrue, slice_index_or}
use Rattle.std.specs.List.{AllByRecursion}
use Rattle.std.proofs.lemmas.Bool.{false≢true}
use Rattle.sp_dd.specs.declared.part.Part.{Part}
use Rattle.sp_dd.specs.declared.part.Part.TheVariants.{Leaf, At}
use Rattle.sp_dd.specs.Func.{Shape, Func}
use Rattle.sp_dd.specs.NodeLists.{Node}
use Rattle.sp_model.specs.declared.parts.Decl.{Decl}
use Rattle.sp_model.specs.declared.parts.Factor.{Factor}
use Rattle.sp_model.specs.declared.parts.ActionPart.{ActionPart}
use Rattle.sp_model.specs.declared.parts.Parts.{Parts}
use Rattle.sp_model.specs.Problem.{no_decl, shape_of}
use Rattle.sp_model.specs.Words.{IsValueName, is_word_byte}
use Rattle.sp_model.specs.Kept.{IsModel, IsDecl, IsAction}
use Rattle.sp_lines.specs.Lines.{Lacks}
use Rattle.sp_show.specs.Decimals.{decimal_of}
use Rattle.sp_spelled.specs.Signs.{Sign, opens, closes, left_square, right_square, plus, star, word, primed, Gap, tight, space, line, Spelled, sign_bytes, text_of_signs}
use Rattle.sp_spelled.specs.Shapes.{sign, spaced_word, last_word, leaf, group, primed_group, sum_group, product_group, closed_words, declaration_signs}
use Rattle.sp_spelled.specs.Words.{dd_name}
use Rattle.sp_canonical.specs.Tables.{NamedTable, named_tables, moving_tables, is_identity, negative, free_variables}
use Rattle.sp_canonical.specs.ModelSigns.{gap_before, declarations_signs, declarations_line, slot_decl, has_prime, part_signs, branch_signs, node_group, node_signs, node_line, node_lines, function_lines, function_signs, line_count, lines_total, functions_lines, zero_node, zeros_signs, summed_signs, factor_tables, factors_signs, init_signs, tables_of, line_behind, named_line, named_lines, heading_signs, observed_signs, cost_signs, block_signs, tables_signs, moving_of, seen_of, action_signs, next_base, actions_signs, reward_signs, discount_signs, model_signs}
use Rattle.sp_canonical.proofs.Pieces.{printed_both}
use Rattle.sp_planfile.specs.ModelText.{model_bytes}
use Rattle.sp_planfile.specs.Form.{AreModelLines}
use Rattle.sp_planfile.proofs.Sections.{lacks-append}
use Rattle.sp_planning.proofs.Lines.{number_lacks, ticks_lack, Ends, ends_behind, ends_alone, one_line, lines_then, no_lines, spaced_other, other_first}

-- ---- words
no_end : {b : ℕ} → IsTrue (is_word_byte b) → b ≢ 10
no_end good e = false≢true (subst (λ b. IsTrue (is_word_byte b)) e good)

word_lacks : (w : List ℕ) → All (λ b. IsTrue (is_word_byte b)) w → Lacks 10 w
word_lacks [] all = tt
word_lacks (b ∷ w) all = (no_end (all zero b (omega arith)), word_lacks w (λ k d less. all (suc k) d (omega (arith, less))))

words_lack : (ws : List (List ℕ)) → All IsValueName ws → AllByRecursion (Lacks 10) ws
words_lack [] all = tt
words_lack (w ∷ ws) all = (word_lacks w (all zero w (omega arith)).bytes, words_lack ws (λ k d less. all (suc k) d (omega (arith, less))))

-- the words of a declaration
record IsWhole (d : Decl) : Type 0 where
  name : Lacks 10 d.name
  values : AllByRecursion (Lacks 10) d.values

whole_decls : (ds : List Decl) → All IsDecl ds → AllByRecursion IsWhole ds
whole_decls [] all = tt
whole_decls (d ∷ ds) all =
    let one = all zero d (omega arith) in
    (record { name = word_lacks d.name one.name.value.bytes; values = words_lack d.values one.values }, whole_decls ds (λ k e less. all (suc k) e (omega (arith, less))))

whole_at : (ds : List Decl) (i : ℕ) → AllByRecursion IsWhole ds → IsWhole (slice_index_or ds i no_decl)
whole_at [] i all = record { name = tt; values = tt }
whole_at (d ∷ ds) zero all = all.0
whole_at (d ∷ ds) (suc i) all = whole_at ds i all.1

whole_either : (b : Bool) (d e : Decl) → IsWhole d → IsWhole e → IsWhole (cond b d e)
whole_either true d e a c = a
whole_either false d e a c = c

-- ---- signs
ends_sign : (s : Sign) (g : Gap) → Lacks 10 (sign_bytes s) → Ends g (text_of_signs (sign s g ∷ []))
ends_sign s g a = ends_alone g (sign_bytes s) a

-- a sign with a space or nothing behind it, before others
tight_sign : (s : Sign) (g : Gap) (ss : List Spelled) → Lacks 10 (sign_bytes s) → Ends g (text_of_signs ss) → Ends g (text_of_signs (sign s tight ∷ ss))
tight_sign s g ss a b = ends_behind g (sign_bytes s) (text_of_signs ss) a b

spaced_sign : (s : Sign) (g : Gap) (ss : List Spelled) → Lacks 10 (sign_bytes s) → Ends g (text_of_signs ss) → Ends g (text_of_signs (sign s space ∷ ss))
spaced_sign s g ss a b = ends_behind g (sign_bytes s) (32 ∷ text_of_signs ss) a (ends_behind g (32 ∷ []) (text_of_signs ss) ((λ e. omega (arith, e)), tt) b)

-- signs without a line's end, before others
ends_both : (g : Gap) (us vs : List Spelled) → Lacks 10 (text_of_signs us) → Ends g (text_of_signs vs) → Ends g (text_of_signs (us ++ vs))
ends_both g us vs a b = subst (Ends g) (sym (printed_both us vs)) (ends_behind g (text_of_signs us) (text_of_signs vs) a b)

lacks_both : (us vs : List Spelled) → Lacks 10 (text_of_signs us) → Lacks 10 (text_of_signs vs) → Lacks 10 (text_of_signs (us ++ vs))
lacks_both us vs a b = subst (Lacks 10) (sym (printed_both us vs)) (lacks-append 10 (text_of_signs us) (text_of_signs vs) a b)

-- the gap before more is none of a line
within : {X : Type 0} (xs : List X) (bytes : List ℕ) → Ends (gap_before xs) bytes → Lacks 10 bytes
within [] bytes a = a
within (x ∷ xs) bytes a = a

round_open : Lacks 10 (40 ∷ [])
round_open = ((λ e. omega (arith, e)), tt)

round_close : Lacks 10 (41 ∷ [])
round_close = ((λ e. omega (arith, e)), tt)

square_open : Lacks 10 (91 ∷ [])
square_open = ((λ e. omega (arith, e)), tt)

square_close : Lacks 10 (93 ∷ [])
square_close = ((λ e. omega (arith, e)), tt)

ends_leaf : (w : List ℕ) (g : Gap) → Lacks 10 w → Ends g (text_of_signs (leaf w g))
ends_leaf w g a = tight_sign opens g (sign (word w) tight ∷ sign closes g ∷ []) round_open (tight_sign (word w) g (sign closes g ∷ []) a (ends_sign closes g round_close))

ends_group : (w : List ℕ) (us : List Spelled) (g : Gap) → Lacks 10 w → Lacks 10 (text_of_signs us) → Ends g (text_of_signs (group w us g))
ends_group w us g a b =
    tight_sign opens g (sign (word w) space ∷ (us ++ sign closes g ∷ [])) round_open
    (spaced_sign (word w) g (us ++ sign closes g ∷ []) a (ends_both g us (sign closes g ∷ []) b (ends_sign closes g round_close)))

ends_primed_group : (w : List ℕ) (us : List Spelled) (g : Gap) → Lacks 10 w → Lacks 10 (text_of_signs us) → Ends g (text_of_signs (primed_group w us g))
ends_primed_group w us g a b =
    tight_sign opens g (sign (primed w) space ∷ (us ++ sign closes g ∷ [])) round_open
    (spaced_sign (primed w) g (us ++ sign closes g ∷ []) (lacks-append 10 w (39 ∷ []) a ((λ e. omega (arith, e)), tt)) (ends_both g us (sign closes g ∷ []) b (ends_sign closes g round_close)))

ends_sum : (us : List Spelled) (g : Gap) → Lacks 10 (text_of_signs us) → Ends g (text_of_signs (sum_group us g))
ends_sum us g b =
    tight_sign left_square g (sign plus space ∷ (us ++ sign right_square g ∷ [])) square_open
    (spaced_sign plus g (us ++ sign right_square g ∷ []) ((λ e. omega (arith, e)), tt) (ends_both g us (sign right_square g ∷ []) b (ends_sign right_square g square_close)))

ends_product : (us : List Spelled) (g : Gap) → Lacks 10 (text_of_signs us) → Ends g (text_of_signs (product_group us g))
ends_product us g b =
    tight_sign left_square g (sign star space ∷ (us ++ sign right_square g ∷ [])) square_open
    (spaced_sign star g (us ++ sign right_square g ∷ []) ((λ e. omega (arith, e)), tt) (ends_both g us (sign right_square g ∷ []) b (ends_sign right_square g square_close)))

-- ---- declarations
ends_words : (ws : List (List ℕ)) (g : Gap) → AllByRecursion (Lacks 10) ws → Ends g (text_of_signs (closed_words ws g))
ends_words [] g all = ends_sign closes g round_close
ends_words (w ∷ []) g all = tight_sign (word w) g (sign closes g ∷ []) all.0 (ends_sign closes g round_close)
ends_words (w ∷ (v ∷ ws)) g all = spaced_sign (word w) g (closed_words (v ∷ ws) g) all.0 (ends_words (v ∷ ws) g all.1)

ends_declaration : (d : Decl) (g : Gap) → IsWhole d → Ends g (text_of_signs (declaration_signs d.name d.values g))
ends_declaration d g is = tight_sign opens g (spaced_word d.name ∷ closed_words d.values g) round_open (spaced_sign (word d.name) g (closed_words d.values g) is.name (ends_words d.values g is.values))

declarations_lack : (ds : List Decl) → AllByRecursion IsWhole ds → Lacks 10 (text_of_signs (declarations_signs ds))
declarations_lack [] all = tt
declarations_lack (d ∷ ds) all =
    lacks_both (declaration_signs d.name d.values (gap_before ds)) (declarations_signs ds) (within ds _ (ends_declaration d (gap_before ds) all.0)) (declarations_lack ds all.1)

declarations_lines : (key : List ℕ) (ds : List Decl) → Lacks 10 key → AllByRecursion IsWhole ds → AreModelLines (text_of_signs (declarations_line key ds))
declarations_lines key ds a all =
    one_line (text_of_signs (declarations_line key ds)) (ends_group key (declarations_signs ds) line a (declarations_lack ds all)) (other_first (text_of_signs (declarations_line key ds)) (λ e. omega (arith, e)))

-- ---- functions
name_lacks : (n : ℕ) → Lacks 10 (dd_name n)
name_lacks n = ((λ e. omega (arith, e)), number_lacks n)

ends_part : (base : ℕ) (g : Gap) (x : Part) → Ends g (text_of_signs (part_signs base g x))
ends_part base g (Leaf z) = ends_leaf (decimal_of z) g (ticks_lack z)
ends_part base g (At i) = ends_leaf (dd_name (base + i)) g (name_lacks (base + i))

branches_lack : (xs : List (List ℕ)) (trees : List (List Spelled)) → AllByRecursion (Lacks 10) xs → AllByRecursion (λ t. Lacks 10 (text_of_signs t)) trees → Lacks 10 (text_of_signs (branch_signs xs trees))
branches_lack [] trees a b = tt
branches_lack (x ∷ xs) [] a b = tt
branches_lack (x ∷ xs) (t ∷ trees) a b = lacks_both (group x t (gap_before trees)) (branch_signs xs trees) (within trees _ (ends_group x t (gap_before trees) a.0 b.0)) (branches_lack xs trees a.1 b.1)

parts_lack : (base : ℕ) (xs : List Part) → AllByRecursion (λ t. Lacks 10 (text_of_signs t)) (map (part_signs base tight) xs)
parts_lack base [] = tt
parts_lack base (x ∷ xs) = (ends_part base tight x, parts_lack base xs)

node_lacks : (is_primed : Bool) (name : List ℕ) (branches : List Spelled) → Lacks 10 name → Lacks 10 (text_of_signs branches) → Lacks 10 (text_of_signs (node_group is_primed name branches space))
node_lacks true name branches a b = ends_primed_group name branches space a b
node_lacks false name branches a b = ends_group name branches space a b

module _ (p : Parts) (variables : AllByRecursion IsWhole p.variables) (sights : AllByRecursion IsWhole p.sights) where
  slot_whole : (slot : ℕ) → IsWhole (slot_decl p slot)
  slot_whole slot =
      whole_either (nat_lt (slot / 2) (length p.variables)) (slice_index_or p.variables (slot / 2) no_decl) (slice_index_or p.sights (slot - 2 * length p.variables) no_decl)
      (whole_at p.variables (slot / 2) variables) (whole_at p.sights (slot - 2 * length p.variables) sights)

  node_line_is : (base at : ℕ) (n : Node) → AreModelLines (text_of_signs (node_line p base at n))
  node_line_is base at n =
      let branches = branches_lack (slot_decl p n.slot).values (map (part_signs base tight) n.parts) (slot_whole n.slot).values (parts_lack base n.parts) in
      let whole = node_lacks (has_prime p n.slot) (slot_decl p n.slot).name (branch_signs (slot_decl p n.slot).values (map (part_signs base tight) n.parts)) (slot_whole n.slot).name branches in
      let last = ends_sign (word (codes "enddd")) line ((λ e. omega (arith, e)), ((λ e. omega (arith, e)), ((λ e. omega (arith, e)), ((λ e. omega (arith, e)), ((λ e. omega (arith, e)), tt))))) in
      let tail = ends_both line (node_signs p base n) (last_word (codes "enddd") ∷ []) whole last in
      let named = spaced_sign (word (dd_name (base + at))) line (node_signs p base n ++ last_word (codes "enddd") ∷ []) (name_lacks (base + at)) tail in
      let all = spaced_sign (word (codes "dd")) line (spaced_word (dd_name (base + at)) ∷ (node_signs p base n ++ last_word (codes "enddd") ∷ [])) ((λ e. omega (arith, e)), ((λ e. omega (arith, e)), tt)) named in
      one_line (text_of_signs (node_line p base at n)) all (other_first (text_of_signs (node_line p base at n)) (λ e. omega (arith, e)))

  two_parts : (us vs : List Spelled) → AreModelLines (text_of_signs us) → AreModelLines (text_of_signs vs) → AreModelLines (text_of_signs (us ++ vs))
  two_parts us vs a b = subst AreModelLines (sym (printed_both us vs)) (lines_then (text_of_signs us) (text_of_signs vs) a b)

  node_lines_are : (base at : ℕ) (ns : List Node) → AreModelLines (text_of_signs (node_lines p base at ns))
  node_lines_are base at [] = no_lines
  node_lines_are base at (n ∷ ns) = two_parts (node_line p base at n) (node_lines p base (suc at) ns) (node_line_is base at n) (node_lines_are base (suc at) ns)

  functions_are : (base : ℕ) (fs : List Func) → AreModelLines (text_of_signs (functions_lines p base fs))
  functions_are base [] = no_lines
  functions_are base (f ∷ fs) = two_parts (function_lines p base f) (functions_lines p (base + line_count f) fs) (node_lines_are base 0 _) (functions_are (base + line_count f) fs)

  -- ---- the initial belief
  zeros_lacking : (xs : List (List ℕ)) → AllByRecursion (λ t. Lacks 10 (text_of_signs t)) (map (λ x. leaf (decimal_of (pos 0)) tight) xs)
  zeros_lacking [] = tt
  zeros_lacking (x ∷ xs) = (ends_leaf (decimal_of (pos 0)) tight (ticks_lack (pos 0)), zeros_lacking xs)

  zeros_lack : (own : List ℕ) → Lacks 10 (text_of_signs (zeros_signs p own))
  zeros_lack [] = tt
  zeros_lack (i ∷ own) =
      let d = slice_index_or p.variables i no_decl in
      let whole = whole_at p.variables i variables in
      let branches = branches_lack d.values (map (λ x. leaf (decimal_of (pos 0)) tight) d.values) whole.values (zeros_lacking d.values) in
      lacks_both (zero_node (gap_before own) d) (zeros_signs p own) (within own _ (ends_group d.name (branch_signs d.values (map (λ x. leaf (decimal_of (pos 0)) tight) d.values)) (gap_before own) whole.name branches)) (zeros_lack own)

  ends_summed : (base : ℕ) (g : Gap) (f : Func) (own : List ℕ) → Ends g (text_of_signs (summed_signs p base g f own))
  ends_summed base g f [] = ends_part base g _
  ends_summed base g f (i ∷ free) = ends_sum (function_signs base space f ++ zeros_signs p (i ∷ free)) g (lacks_both (function_signs base space f) (zeros_signs p (i ∷ free)) (ends_part base space _) (zeros_lack (i ∷ free)))

  factors_lack : (base : ℕ) (fs : List Factor) → Lacks 10 (text_of_signs (factors_signs p base fs))
  factors_lack base [] = tt
  factors_lack base (f ∷ fs) =
      lacks_both (summed_signs p base (gap_before fs) f.func (free_variables f)) (factors_signs p (base + line_count f.func) fs) (within fs _ (ends_summed base (gap_before fs) f.func (free_variables f)))
      (factors_lack (base + line_count f.func) fs)

  init_lines : (fs : List Factor) → AreModelLines (text_of_signs (init_signs p fs))
  init_lines fs =
      let last = spaced_word (codes "init") ∷ product_group (factors_signs p 0 fs) line in
      let all = spaced_sign (word (codes "init")) line (product_group (factors_signs p 0 fs) line) ((λ e. omega (arith, e)), ((λ e. omega (arith, e)), ((λ e. omega (arith, e)), ((λ e. omega (arith, e)), tt)))) (ends_product (factors_signs p 0 fs) line (factors_lack 0 fs)) in
      two_parts (functions_lines p 0 (factor_tables fs)) last (functions_are 0 (factor_tables fs)) (one_line (text_of_signs last) all (other_first (text_of_signs last) (λ e. omega (arith, e))))

  -- ---- actions
  abbrev AreNamed : List NamedTable → Type 0
  AreNamed ts = AllByRecursion (λ t. Lacks 10 t.name) ts

  named_are : (base : ℕ) (ts : List NamedTable) → AreNamed ts → AreModelLines (text_of_signs (named_lines base ts))
  named_are base [] all = no_lines
  named_are base (t ∷ ts) all =
      let first = named_line base t.name t.table in
      let one = one_line (text_of_signs first) (spaced_sign (word t.name) line (function_signs base line t.table) all.0 (ends_part base line _)) (spaced_other t.name (text_of_signs (function_signs base line t.table))) in
      two_parts first (named_lines (base + line_count t.table) ts) one (named_are (base + line_count t.table) ts all.1)

  word_line : (w : List ℕ) → Lacks 10 w → w ++ (10 ∷ []) ≢ codes "endmodel\n" → AreModelLines (text_of_signs (last_word w ∷ []))
  word_line w a other = one_line (text_of_signs (last_word w ∷ [])) (ends_sign (word w) line a) other

  heading_line : (name : List ℕ) → Lacks 10 name → AreModelLines (text_of_signs (heading_signs name))
  heading_line name a =
      one_line (text_of_signs (heading_signs name))
      (spaced_sign (word (codes "action")) line (last_word name ∷ []) ((λ e. omega (arith, e)), ((λ e. omega (arith, e)), ((λ e. omega (arith, e)), ((λ e. omega (arith, e)), ((λ e. omega (arith, e)), ((λ e. omega (arith, e)), tt)))))) (ends_sign (word name) line a))
      (other_first (text_of_signs (heading_signs name)) (λ e. omega (arith, e)))

  observed_lines : (base : ℕ) (seen : List NamedTable) → AreNamed seen → AreModelLines (text_of_signs (observed_signs base seen))
  observed_lines base seen all =
      let first = word_line (codes "observe") ((λ e. omega (arith, e)), ((λ e. omega (arith, e)), ((λ e. omega (arith, e)), ((λ e. omega (arith, e)), ((λ e. omega (arith, e)), ((λ e. omega (arith, e)), ((λ e. omega (arith, e)), tt))))))) (other_first (codes "observe\n") (λ e. omega (arith, e))) in
      let last = word_line (codes "endobserve")
      ((λ e. omega (arith, e)), ((λ e. omega (arith, e)), ((λ e. omega (arith, e)), ((λ e. omega (arith, e)), ((λ e. omega (arith, e)), ((λ e. omega (arith, e)), ((λ e. omega (arith, e)), ((λ e. omega (arith, e)), ((λ e. omega (arith, e)), ((λ e. omega (arith, e)), tt))))))))))
      (λ e. let differs : get_or (codes "endobserve\n") 3 0 ≡ get_or (codes "endmodel\n") 3 0 = ap (λ (l : List ℕ). get_or l 3 0) e in omega (arith, differs)) in
      two_parts (last_word (codes "observe") ∷ []) (named_lines base seen ++ last_word (codes "endobserve") ∷ []) first (two_parts (named_lines base seen) (last_word (codes "endobserve") ∷ []) (named_are base seen all) last)

  cost_lines : (base : ℕ) (cost : Func) → AreModelLines (text_of_signs (cost_signs base cost))
  cost_lines base cost =
      let front = spaced_word (codes "cost") ∷ function_signs base line cost in
      let one = one_line (text_of_signs front) (spaced_sign (word (codes "cost")) line (function_signs base line cost) ((λ e. omega (arith, e)), ((λ e. omega (arith, e)), ((λ e. omega (arith, e)), ((λ e. omega (arith, e)), tt)))) (ends_part base line _)) (other_first (text_of_signs front) (λ e. omega (arith, e))) in
      let last = word_line (codes "endaction")
      ((λ e. omega (arith, e)), ((λ e. omega (arith, e)), ((λ e. omega (arith, e)), ((λ e. omega (arith, e)), ((λ e. omega (arith, e)), ((λ e. omega (arith, e)), ((λ e. omega (arith, e)), ((λ e. omega (arith, e)), ((λ e. omega (arith, e)), tt)))))))))
      (λ e. let differs : get_or (codes "endaction\n") 3 0 ≡ get_or (codes "endmodel\n") 3 0 = ap (λ (l : List ℕ). get_or l 3 0) e in omega (arith, differs)) in
      two_parts front (last_word (codes "endaction") ∷ []) one last

  tables_lines : (name : List ℕ) (base : ℕ) (moving seen : List NamedTable) (cost : Func) → Lacks 10 name → AreNamed moving → AreNamed seen → AreModelLines (text_of_signs (tables_signs p name base moving seen cost))
  tables_lines name base moving seen cost a b c =
      let behind = line_behind (line_behind base moving) seen in
      let block = two_parts (heading_signs name) (named_lines base moving ++ (observed_signs (line_behind base moving) seen ++ cost_signs behind cost)) (heading_line name a)
      (two_parts (named_lines base moving) (observed_signs (line_behind base moving) seen ++ cost_signs behind cost) (named_are base moving b)
      (two_parts (observed_signs (line_behind base moving) seen) (cost_signs behind cost) (observed_lines (line_behind base moving) seen c) (cost_lines behind cost))) in
      two_parts (functions_lines p base (tables_of moving)) (functions_lines p (line_behind base moving) (tables_of seen) ++ (function_lines p behind cost ++ block_signs name base moving seen cost)) (functions_are base (tables_of moving))
      (two_parts (functions_lines p (line_behind base moving) (tables_of seen)) (function_lines p behind cost ++ block_signs name base moving seen cost) (functions_are (line_behind base moving) (tables_of seen))
      (two_parts (function_lines p behind cost) (block_signs name base moving seen cost) (node_lines_are behind 0 _) block))

  seen_named : (ds : List Decl) (fs : List Func) → AllByRecursion IsWhole ds → AreNamed (named_tables ds fs)
  seen_named [] fs all = tt
  seen_named (d ∷ ds) [] all = tt
  seen_named (d ∷ ds) (f ∷ fs) all = (all.0.name, seen_named ds fs all.1)

  either_named : (b : Bool) (xs ys : List NamedTable) → AreNamed xs → AreNamed ys → AreNamed (cond b xs ys)
  either_named true xs ys a c = a
  either_named false xs ys a c = c

  moving_named : (i : ℕ) (ds : List Decl) (fs : List Func) → AllByRecursion IsWhole ds → AreNamed (moving_tables (shape_of p) i ds fs)
  moving_named i [] fs all = tt
  moving_named i (d ∷ ds) [] all = tt
  moving_named i (d ∷ ds) (f ∷ fs) all =
      let rest = moving_named (suc i) ds fs all.1 in
      either_named (is_identity (shape_of p) i f) (moving_tables (shape_of p) (suc i) ds fs) (record { name = d.name; table = f } ∷ moving_tables (shape_of p) (suc i) ds fs) rest (all.0.name, rest)

  actions_lines : (base : ℕ) (actions : List ActionPart) → AllByRecursion (λ a. Lacks 10 a.name) actions → AreModelLines (text_of_signs (actions_signs p base actions))
  actions_lines base [] all = no_lines
  actions_lines base (a ∷ more) all =
      two_parts (action_signs p base a) (actions_signs p (next_base p base a) more)
      (tables_lines a.name base (moving_of p a) (seen_of p a) (negative a.reward) all.0 (moving_named 0 p.variables a.moves variables) (seen_named p.sights a.sight sights))
      (actions_lines (next_base p base a) more all.1)

  reward_line : AreModelLines (text_of_signs reward_signs)
  reward_line =
      one_line (text_of_signs reward_signs)
      (spaced_sign (word (codes "reward")) line (leaf (decimal_of (pos 0)) line) ((λ e. omega (arith, e)), ((λ e. omega (arith, e)), ((λ e. omega (arith, e)), ((λ e. omega (arith, e)), ((λ e. omega (arith, e)), ((λ e. omega (arith, e)), tt)))))) (ends_leaf (decimal_of (pos 0)) line (ticks_lack (pos 0))))
      (other_first (text_of_signs reward_signs) (λ e. omega (arith, e)))

  discount_line : AreModelLines (text_of_signs (discount_signs p.discount))
  discount_line =
      one_line (text_of_signs (discount_signs p.discount))
      (spaced_sign (word (codes "discount")) line (last_word (decimal_of (pos p.discount)) ∷ []) ((λ e. omega (arith, e)), ((λ e. omega (arith, e)), ((λ e. omega (arith, e)), ((λ e. omega (arith, e)), ((λ e. omega (arith, e)), ((λ e. omega (arith, e)), ((λ e. omega (arith, e)), ((λ e. omega (arith, e)), tt))))))))
      (ends_sign (word (decimal_of (pos p.discount))) line (ticks_lack (pos p.discount))))
      (other_first (text_of_signs (discount_signs p.discount)) (λ e. omega (arith, e)))

action_names : (s : Shape) (acts : List ActionPart) → All (IsAction s) acts → AllByRecursion (λ a. Lacks 10 a.name) acts
action_names s [] all = tt
action_names s (a ∷ acts) all = (word_lacks a.name (all zero a (omega arith)).name.value.bytes, action_names s acts (λ k d less. all (suc k) d (omega (arith, less))))

pub model_lines : (p : Parts) → IsModel p → AreModelLines (model_bytes p)
unfolding model_signs
model_lines p known =
    let vs = whole_decls p.variables known.variables in
    let ss = whole_decls p.sights known.sights in
    let first = declarations_line (codes "variables") p.variables in
    let second = declarations_line (codes "observations") p.sights in
    let base = lines_total (factor_tables p.init) in
    let ends = reward_signs ++ discount_signs p.discount in
    let actions = actions_signs p base p.actions in
    two_parts p vs ss first (second ++ (init_signs p p.init ++ (actions ++ ends)))
    (declarations_lines (codes "variables") p.variables ((λ e. omega (arith, e)), ((λ e. omega (arith, e)), ((λ e. omega (arith, e)), ((λ e. omega (arith, e)), ((λ e. omega (arith, e)), ((λ e. omega (arith, e)), ((λ e. omega (arith, e)), ((λ e. omega (arith, e)), ((λ e. omega (arith, e)), tt))))))))) vs)
    (two_parts p vs ss second (init_signs p p.init ++ (actions ++ ends))
    (declarations_lines (codes "observations") p.sights ((λ e. omega (arith, e)), ((λ e. omega (arith, e)), ((λ e. omega (arith, e)), ((λ e. omega (arith, e)), ((λ e. omega (arith, e)), ((λ e. omega (arith, e)), ((λ e. omega (arith, e)), ((λ e. omega (arith, e)), ((λ e. omega (arith, e)), ((λ e. omega (arith, e)), ((λ e. omega (arith, e)), ((λ e. omega (arith, e)), tt)))))))))))) ss)
    (two_parts p vs ss (init_signs p p.init) (actions ++ ends) (init_lines p vs ss p.init)
    (two_parts p vs ss actions ends (actions_lines p vs ss base p.actions (action_names (shape_of p) p.actions known.actions))
    (two_parts p vs ss reward_signs (discount_signs p.discount) (reward_line p vs ss) (discount_line p vs ss)))))
