-- The canonical text of a model, computed.
use Rattle.std.proofs.Common.{◌≡◌, List, [], ◌∷◌, refl}
use Rattle.std.specs.Prelude.{ℤ, codes, pos, negsuc}
use Rattle.std.specs.Fmt.{digits}
use Rattle.sp_show.specs.Decimals.{decimal_of}
use Rattle.sp_spelled.specs.Signs.{text_of_signs}
use Rattle.sp_dd.specs.Func.{Shape, Func, leaves_of}
use Rattle.sp_dd.specs.Diagrams.{node_list, root_part}
use Rattle.sp_dd.specs.NodeLists.{list_of_function, gathered, node_of_parts, put, place}
use Rattle.sp_model.specs.declared.parts.ActionPart.{ActionPart}
use Rattle.sp_model.specs.declared.parts.Decl.{Decl}
use Rattle.sp_model.specs.declared.parts.Parts.{Parts}
use Rattle.sp_canonical.specs.ModelSigns.{declarations_line, model_signs}

tiger : Decl
tiger = record { name = codes "tiger"; values = codes "left" ∷ codes "right" ∷ [] }

hear : Decl
hear = record { name = codes "hear"; values = codes "left" ∷ codes "right" ∷ [] }

two_variables : text_of_signs (declarations_line (codes "observations") (hear ∷ tiger ∷ [])) ≡ codes "(observations (hear left right) (tiger left right))\n"
unfolding tiger hear
two_variables = refl

shape : Shape
shape = record { sizes = 2 ∷ 2 ∷ 2 ∷ []; variables = 1 }

func : List ℤ → Func
func leaves = record { shape = shape; leaves = leaves }

half : Func
half = func (pos 500000000 ∷ pos 500000000 ∷ pos 500000000 ∷ pos 500000000 ∷ pos 500000000 ∷ pos 500000000 ∷ pos 500000000 ∷ pos 500000000 ∷ [])

listen : ActionPart
listen = record {
  name = codes "listen";
  reward = func (negsuc 999999999 ∷ negsuc 999999999 ∷ negsuc 999999999 ∷ negsuc 999999999 ∷ negsuc 999999999 ∷ negsuc 999999999 ∷ negsuc 999999999 ∷ negsuc 999999999 ∷ []);
  moves = func (pos 1000000000 ∷ pos 1000000000 ∷ pos 0 ∷ pos 0 ∷ pos 0 ∷ pos 0 ∷ pos 1000000000 ∷ pos 1000000000 ∷ []) ∷ [];
  sight = func (pos 850000000 ∷ pos 150000000 ∷ pos 150000000 ∷ pos 850000000 ∷ pos 850000000 ∷ pos 150000000 ∷ pos 150000000 ∷ pos 850000000 ∷ []) ∷ [];
}

open_left : ActionPart
open_left = record {
  name = codes "open_left";
  reward = func (negsuc 99999999999 ∷ negsuc 99999999999 ∷ negsuc 99999999999 ∷ negsuc 99999999999 ∷ pos 10000000000 ∷ pos 10000000000 ∷ pos 10000000000 ∷ pos 10000000000 ∷ []);
  moves = half ∷ [];
  sight = half ∷ [];
}

model : Parts
model = record { variables = tiger ∷ []; sights = hear ∷ []; scope = shape; discount = 950000000; init = record { func = half; own = 0 ∷ [] } ∷ []; actions = listen ∷ open_left ∷ [] }

-- declarations, a factor that doesn't depend on its variable, lines with a prime and without one, a table that is the identity, costs, reward and discount
whole : text_of_signs (model_signs model) ≡ codes
    "(variables (tiger left right))\n(observations (hear left right))\ninit [* [+ (0.500000000) (tiger (left (0.000000000)) (right (0.000000000)))]]\ndd n0 (hear' (left (0.850000000)) (right (0.150000000))) enddd\ndd n1 (hear' (left (0.150000000)) (right (0.850000000))) enddd\ndd n2 (tiger' (left (n0)) (right (n1))) enddd\naction listen\nobserve\nhear (n2)\nendobserve\ncost (1.000000000)\nendaction\ndd n3 (tiger (left (100.000000000)) (right (-10.000000000))) enddd\naction open_left\ntiger (0.500000000)\nobserve\nhear (0.500000000)\nendobserve\ncost (n3)\nendaction\nreward (0.000000000)\ndiscount 0.950000000\n"
unfolding model_signs model tiger hear shape func half listen open_left node_list root_part list_of_function gathered node_of_parts put place decimal_of digits leaves_of
whole = refl
