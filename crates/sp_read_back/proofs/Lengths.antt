-- A canonical text has a byte or more for each of its lines.
use Rattle.std.proofs.Common.{◌≡◌, ℕ, suc, ◌+◌, ◌<◌, ◌≤◌, List, [], ◌∷◌, ◌++◌, length, ap, ◌∙◌, length-append, arith}
use Rattle.std.specs.Prelude.{codes}
use Rattle.sp_dd.specs.Func.{Func}
use Rattle.sp_dd.specs.NodeLists.{Node}
use Rattle.sp_dd.specs.Diagrams.{node_list}
use Rattle.sp_model.specs.declared.parts.ActionPart.{ActionPart}
use Rattle.sp_model.specs.declared.parts.Parts.{Parts}
use Rattle.sp_spelled.specs.Signs.{Spelled, line, text_of_signs}
use Rattle.sp_spelled.specs.Shapes.{spaced_word, product_group}
use Rattle.sp_canonical.specs.Tables.{NamedTable, negative}
use Rattle.sp_canonical.specs.ModelSigns.{model_signs, declarations_line, init_signs, action_signs, actions_signs, next_base, lines_total, line_count, line_behind, factor_tables, factors_signs, tables_of, tables_signs, block_signs, moving_of, seen_of, node_line, node_lines, function_lines, functions_lines, reward_signs, discount_signs}
use Rattle.sp_canonical.proofs.Pieces.{printed_both}
use Rattle.sp_read_back.specs.ReadBack.{line_end}

lengths : (us vs : List Spelled) → length (text_of_signs (us ++ vs)) ≡ length (text_of_signs us) + length (text_of_signs vs)
lengths us vs = ap (λ (b : List ℕ). length b) (printed_both us vs) ∙ length-append (text_of_signs us) (text_of_signs vs)

some_bytes : (p : Parts) (base at : ℕ) (n : Node) → 0 < length (text_of_signs (node_line p base at n))
some_bytes p base at n = omega arith

of_nodes : (p : Parts) (base at : ℕ) (ns : List Node) → length ns ≤ length (text_of_signs (node_lines p base at ns))
of_nodes p base at [] = omega arith
of_nodes p base at (n ∷ ns) =
    let sum = lengths (node_line p base at n) (node_lines p base (suc at) ns) in
    let some = some_bytes p base at n in
    let more = of_nodes p base (suc at) ns in
    omega arith

of_functions : (p : Parts) (base : ℕ) (fs : List Func) → lines_total fs ≤ length (text_of_signs (functions_lines p base fs))
of_functions p base [] = omega arith
of_functions p base (f ∷ fs) =
    let sum = lengths (function_lines p base f) (functions_lines p (base + line_count f) fs) in
    let here = of_nodes p base 0 (node_list f) in
    let more = of_functions p (base + line_count f) fs in
    omega arith

of_tables : (p : Parts) (name : List ℕ) (base : ℕ) (moving seen : List NamedTable) (cost : Func)
    → line_behind (line_behind base moving) seen + line_count cost ≤ base + length (text_of_signs (tables_signs p name base moving seen cost))
of_tables p name base moving seen cost =
    let from_seen : ℕ = line_behind base moving in
    let from_cost : ℕ = line_behind (line_behind base moving) seen in
    let block : List Spelled = block_signs name base moving seen cost in
    let costs : List Spelled = function_lines p from_cost cost in
    let sights : List Spelled = functions_lines p from_seen (tables_of seen) in
    let first = lengths (functions_lines p base (tables_of moving)) (sights ++ (costs ++ block)) in
    let second = lengths sights (costs ++ block) in
    let third = lengths costs block in
    let moves = of_functions p base (tables_of moving) in
    let views = of_functions p from_seen (tables_of seen) in
    let last = of_nodes p from_cost 0 (node_list cost) in
    omega arith

of_action : (p : Parts) (base : ℕ) (a : ActionPart) → next_base p base a ≤ base + length (text_of_signs (action_signs p base a))
of_action p base a = of_tables p a.name base (moving_of p a) (seen_of p a) (negative a.reward)

of_actions : (p : Parts) (base : ℕ) (list : List ActionPart) → line_end p base list ≤ base + length (text_of_signs (actions_signs p base list))
of_actions p base [] = omega arith
of_actions p base (a ∷ list) =
    let sum = lengths (action_signs p base a) (actions_signs p (next_base p base a) list) in
    let here = of_action p base a in
    let more = of_actions p (next_base p base a) list in
    omega arith

in_init : (p : Parts) → lines_total (factor_tables p.init) ≤ length (text_of_signs (init_signs p p.init))
in_init p =
    let sum = lengths (functions_lines p 0 (factor_tables p.init)) (spaced_word (codes "init") ∷ product_group (factors_signs p 0 p.init) line) in
    let here = of_functions p 0 (factor_tables p.init) in
    omega arith

pub of_model : (p : Parts) → line_end p (lines_total (factor_tables p.init)) p.actions ≤ length (text_of_signs (model_signs p))
unfolding model_signs
of_model p =
    let base : ℕ = lines_total (factor_tables p.init) in
    let tail : List Spelled = reward_signs ++ discount_signs p.discount in
    let acts : List Spelled = actions_signs p base p.actions in
    let begun : List Spelled = init_signs p p.init in
    let sights : List Spelled = declarations_line (codes "observations") p.sights in
    let first = lengths (declarations_line (codes "variables") p.variables) (sights ++ (begun ++ (acts ++ tail))) in
    let second = lengths sights (begun ++ (acts ++ tail)) in
    let third = lengths begun (acts ++ tail) in
    let fourth = lengths acts tail in
    let init = in_init p in
    let actions = of_actions p base p.actions in
    omega arith
