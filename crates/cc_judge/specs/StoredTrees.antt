-- The parts of the codes by which trees are stored. They serve proofs alone.
use Rattle.std.specs.Prelude.{◌≡◌, ℕ, false, ◌==◌, refl}
use Rattle.std.specs.Coded.{coded_ℕ, coded_ℤ, coded_bool, coded_list}
use Rattle.std.proofs.Common.{sym, ap, ◌∙◌, eq-eqb}
use Rattle.std.proofs.lemmas.Bool.{false≢true}
use base.Stored.{Gv, gnil, gnum, gcons}
use Rattle.cc_base.specs.Literals.{Literal, UnitLiteral, TruthLiteral, NumberLiteral, TextLiteral}

-- the parts of a pair
abbrev pub front : Gv → Gv
front gnil = gnil
front (gnum n) = gnil
front (gcons a b) = a

abbrev pub back : Gv → Gv
back gnil = gnil
back (gnum n) = gnil
back (gcons a b) = b

abbrev pub number : Gv → ℕ
number gnil = 0
number (gnum n) = n
number (gcons a b) = 0

-- the number of the constructor that a code begins with
abbrev pub tag : Gv → ℕ
tag code = number (front code)

-- codes with other numbers are not one
pub apart : (m n : ℕ) → (m == n) ≡ false → m ≡ n → ⊥
apart m n other same = false≢true (sym other ∙ eq-eqb m n same)

-- the code of a literal
abbrev pub literal_tree : Literal → Gv
literal_tree UnitLiteral = gcons (gnum 0) gnil
literal_tree (TruthLiteral truth) = gcons (gnum 1) (coded_bool.code truth)
literal_tree (NumberLiteral number) = gcons (gnum 2) (coded_ℤ.code number)
literal_tree (TextLiteral text) = gcons (gnum 3) ((coded_list coded_ℕ).code text)

-- which has no other with it
pub one_literal : (x y : Literal) → literal_tree x ≡ literal_tree y → x ≡ y
one_literal UnitLiteral UnitLiteral e = refl
one_literal (TruthLiteral a) (TruthLiteral b) e = ap TruthLiteral (coded_bool.inj a b (ap back e))
one_literal (NumberLiteral a) (NumberLiteral b) e = ap NumberLiteral (coded_ℤ.inj a b (ap back e))
one_literal (TextLiteral a) (TextLiteral b) e = ap TextLiteral ((coded_list coded_ℕ).inj a b (ap back e))
one_literal x y e = absurd (apart (tag (literal_tree x)) (tag (literal_tree y)) refl (ap tag e))
