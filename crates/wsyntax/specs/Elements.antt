-- 2.5.7 Element segments as they are held and lent: the functions of all of them lie in one list.
use Rattle.std.specs.Prelude.{◌≡◌, ◌≤◌, ℕ, zero, suc, List, [], ◌∷◌, ◌++◌, length, slice_range}
use Rattle.wsyntax.specs.HeldElement.{HeldElement}
use Rattle.wsyntax.specs.declared.elements.Element.{Element}
use Rattle.wsyntax.specs.declared.elements.Segment.{Segment}
use Rattle.wsyntax.specs.declared.elements.Elements.TheInside.{Inside}

-- 2.5.7 the element segment that a lent one stands for
abbrev pub element_of : Element → HeldElement
element_of e = record { table = e.table; offset = e.offset.now; functions = e.functions.now }

-- the segment whose functions lie at a part of the list
abbrev pub element_in : List ℕ → ℕ → Segment → HeldElement
element_in functions start s = record { table = s.table; offset = s.offset; functions = slice_range functions start s.end }

-- the segments whose functions lie one after the other from a position on
abbrev pub elements_from : List ℕ → ℕ → List Segment → List HeldElement
elements_from functions start [] = []
elements_from functions start (s ∷ ss) = element_in functions start s ∷ elements_from functions s.end ss

-- they fill the list from there on
abbrev pub FillFrom : List ℕ → ℕ → List Segment → Type 0
FillFrom functions start [] = start ≡ length functions
FillFrom functions start (s ∷ ss) = (start ≤ s.end) × FillFrom functions s.end ss

-- where the functions of the segment of that index begin
abbrev pub start_at : ℕ → List Segment → ℕ → ℕ
start_at start ss zero = start
start_at start [] (suc n) = start
start_at start (s ∷ ss) (suc n) = start_at s.end ss n

-- 2.5.7 the element segments that a held list stands for, wherever their functions lie in memory
abbrev pub held_elements : Inside → List HeldElement
held_elements a = elements_from a.functions.items 0 a.segments.items

-- the functions of the segments are all that there are
abbrev pub AreAll : Inside → Type 0
AreAll a = FillFrom a.functions.items 0 a.segments.items

-- 2.5.7 the segments with a function more in the last one
abbrev pub with_function : List HeldElement → ℕ → List HeldElement
with_function [] f = []
with_function (e ∷ []) f = record e { functions = e.functions ++ f ∷ [] } ∷ []
with_function (e ∷ d ∷ es) f = e ∷ with_function (d ∷ es) f
