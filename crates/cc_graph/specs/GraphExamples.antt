-- Worked import graphs.
use Rattle.std.specs.Prelude.{◌≡◌, ℕ, true, false, List, [], ◌∷◌, refl, reverse}
use Rattle.cc_graph.specs.Graph.{ImportMap, does_import, reaches, is_ready, are_in_order, IsOrder, one_step, more_steps}
use Rattle.cc_graph.specs.Graph.{Reaches}
use lib.Utf8.{encode}

-- names of one letter
abbrev a : List ℕ
a = 97 ∷ []

abbrev b : List ℕ
b = 98 ∷ []

abbrev c : List ℕ
c = 99 ∷ []

abbrev d : List ℕ
d = 100 ∷ []

abbrev e : List ℕ
e = 101 ∷ []

abbrev f : List ℕ
f = 102 ∷ []

-- the name of a module that is not present
abbrev z : List ℕ
z = 122 ∷ []

-- b and c are in a cycle, e imports itself, and z is not present
abbrev modules : ImportMap
modules =
    (a, b ∷ z ∷ [])
    ∷ (b, c ∷ [])
    ∷ (c, b ∷ d ∷ [])
    ∷ (d, [])
    ∷ (e, e ∷ [])
    ∷ (f, a ∷ e ∷ [])
    ∷ []

-- one import, and three
pub reaches_imported : Reaches modules a b
unfolding does_import
reaches_imported = one_step refl

pub reaches_far : Reaches modules a d
unfolding does_import
reaches_far = more_steps {between = b} refl (more_steps {between = c} refl (one_step refl))

pub test_of_far : reaches modules a d ≡ true
unfolding reaches does_import
test_of_far = refl

-- what is not present is reached where it is imported, and reaches nothing
pub reaches_absent : reaches modules f z ≡ true
unfolding reaches does_import
reaches_absent = refl

pub absent_reaches_nothing : reaches modules z a ≡ false
unfolding reaches does_import
absent_reaches_nothing = refl

-- a module reaches itself in a cycle alone: through another, or by an import of itself
pub reaches_itself_through_another : reaches modules b b ≡ true
unfolding reaches does_import
reaches_itself_through_another = refl

pub reaches_itself_at_once : reaches modules e e ≡ true
unfolding reaches does_import
reaches_itself_at_once = refl

pub does_not_reach_itself : reaches modules a a ≡ false
unfolding reaches does_import
does_not_reach_itself = refl

-- imports lead one way
pub does_not_reach_back : reaches modules d c ≡ false
unfolding reaches does_import
does_not_reach_back = refl

-- Of b and c, which import each other, b comes first by name; then a, which waits for b alone; c waits for d besides.
pub order_of_modules : IsOrder modules (b ∷ a ∷ d ∷ c ∷ e ∷ f ∷ [])
unfolding reaches does_import is_ready encode
order_of_modules = record { steps = refl; whole = refl }

-- what may come earlier by name does
pub not_in_another_order : are_in_order modules (reverse (d ∷ b ∷ a ∷ c ∷ e ∷ f ∷ [])) ≡ false
unfolding reaches does_import is_ready encode
not_in_another_order = refl

-- names are compared from the front, and not by length
pub order_by_name : IsOrder (((97 ∷ 97 ∷ []), []) ∷ (b, []) ∷ []) ((97 ∷ 97 ∷ []) ∷ b ∷ [])
unfolding reaches does_import is_ready encode
order_by_name = record { steps = refl; whole = refl }

-- no modules
pub order_of_none : IsOrder [] []
order_of_none = record { steps = refl; whole = refl }
