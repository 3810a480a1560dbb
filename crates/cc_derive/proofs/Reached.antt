-- Tables of how the variables of a context are below a set.
use Rattle.std.proofs.Common.{◌≡◌, ℕ, zero, suc, ◌+◌, ◌<◌, Bool, true, false, cond, List, [], ◌∷◌, ◌++◌, length, get_or, map, Option, Some, None, refl, sym, ap, ◌∙◌, subst, inl, inr, arith}
use Rattle.std.specs.Prelude.{nat_lt}
use Rattle.std.specs.Option.{option_and_then, option_map}
use Rattle.std.proofs.lemmas.Bool.{cond-true, lt-ltb}
use Rattle.cc_capture.specs.declared.var.Var.TheVariants.{Free}
use Rattle.cc_capture.specs.declared.var.Elem.{Elem}
use Rattle.cc_capture.specs.declared.var.Elem.TheVariants.{Var as Variable}
use Rattle.cc_capture.specs.Rising.{is_listed}
use Rattle.cc_capture.specs.Sets.{Set, Member, contains, is_subset}
use Rattle.cc_capture.proofs.Membership.{is_subset-Member}
use Rattle.cc_core.specs.Contexts.{Bind, Context, lookup}
use Rattle.cc_core.specs.Derivations.{BySet, SetBelow, Derivation, Node}
use Rattle.cc_checking.specs.CanonicalDerivations.{member_derived, premises_for, elements_derived, element_derived, set_derived}
use Rattle.cc_derive.specs.declared.trees.Tree.{Tree}
use Rattle.cc_derive.specs.Tables.{IsTable, reached_derived, declared_in, declared_derived}
use Rattle.cc_derive.specs.Trees.{IsMade, listed}
use Rattle.cc_derive.proofs.Counts.{premises_for-listed}
use Rattle.cc_derive.proofs.Tabled.{contained, elements_alike, members_derived, reached_known, by_declared}
use Rattle.cc_derive.specs.declared.trees.Making.{Making}

get_or_front : {X : Type 0} (xs : List X) (x d : X) (k : ℕ) → k < length xs → get_or (xs ++ x ∷ []) k d ≡ get_or xs k d
get_or_front [] x d k h = absurd (omega arith)
get_or_front (y ∷ xs) x d zero h = refl
get_or_front (y ∷ xs) x d (suc k) h = get_or_front xs x d k (omega arith)

get_or_last : {X : Type 0} (xs : List X) (x d : X) → get_or (xs ++ x ∷ []) (length xs) d ≡ x
get_or_last [] x d = refl
get_or_last (y ∷ xs) x d = get_or_last xs x d

-- no position, and one more
pub table_none : (build : Making) (g : Context) (right : Set) → IsTable build g right []
table_none build g right = record { at = λ p d h. absurd (omega arith) }

-- an element that is known
pub reached_at : (build : Making) (g : Context) (right : Set) (table : List Tree) (p : ℕ) (tree : Tree) → IsTable build g right table
    → true ≡ nat_lt p (length table) → tree ≡ get_or table p tree → p < length table
    → IsMade build tree (element_derived g right (Variable (Free p)))
reached_at build g right table p tree known lt is below =
    subst (λ (t : Tree). IsMade build t (element_derived g right (Variable (Free p)))) (sym is) (known.at p tree below)

pub reached_is : (g : Context) (right : Set) (known p : ℕ) → p < known
    → element_derived g right (Variable (Free p)) ≡ reached_derived known g right (Variable (Free p))
reached_is g right known p below =
    sym (cond-true (nat_lt p known) (element_derived g right (Variable (Free p))) (member_derived right (Variable (Free p))) (lt-ltb p known below))

-- all elements
pub elements_listed : (derive : Elem → Derivation) (left right : Set)
    → Node BySet (listed (map derive left.list)) (SetBelow left right) ≡ elements_derived derive left right
elements_listed derive left right = ap (λ p. Node BySet p (SetBelow left right)) (sym (premises_for-listed derive left.list))

-- a member, and what is found for the position
pub position_contained : (g : Context) (right : Set) (p : ℕ) → contains (Variable (Free p)) right ≡ true
    → member_derived right (Variable (Free p)) ≡ element_derived g right (Variable (Free p))
position_contained g right p m = sym (contained g right (Variable (Free p)) m)

pub position_declared : (g : Context) (right : Set) (p : ℕ) (found : Option Bind) → contains (Variable (Free p)) right ≡ false
    → found ≡ lookup g p
    → declared_derived g right p (option_and_then declared_in found) ≡ element_derived g right (Variable (Free p))
position_declared g right p found absent is =
    ap (λ (o : Option Bind). declared_derived g right p (option_and_then declared_in o)) is ∙ sym (by_declared g right p absent)

-- all variables are known
pub all_known : (g : Context) (left right : Set) (n : ℕ) → n ≡ length g
    → elements_derived (reached_derived n g right) left right ≡ set_derived g left right
all_known g left right n is =
    elements_alike (reached_derived n g right) (element_derived g right) (reached_known g right n (omega (arith, is))) left right

-- all elements are members
listed_member : (e : Elem) (c : Set) → is_listed e c.list ≡ true → Member e c
unfolding contains
listed_member e c m = m

pub all_members : (g : Context) (left right : Set) → is_subset left right ≡ true
    → elements_derived (reached_derived 0 g right) left right ≡ set_derived g left right
all_members g left right within =
    members_derived g left right (λ e m. (is_subset-Member left right).0 within e (listed_member e left m))
