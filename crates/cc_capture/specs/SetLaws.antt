-- The laws of elements and of capture sets.
use Rattle.std.specs.Prelude.{◌≡◌, ◌↔◌, ◌⊎◌, ◌≢◌, ℕ, ◌<◌, Bool, true, List}
use Rattle.std.specs.declared.cmp.Ordering.TheVariants.{Less, Equal}
use Rattle.std.specs.Cmp.{IsTotalOrder}
use Rattle.std.specs.List.{Contains}
use Rattle.cc_capture.specs.declared.var.Var.{Var}
use Rattle.cc_capture.specs.declared.var.Var.TheVariants.{Bound, Free}
use Rattle.cc_capture.specs.declared.var.Elem.{Elem}
use Rattle.cc_capture.specs.declared.var.Elem.TheVariants.{Var as Variable, Cap, Hole}
use Rattle.cc_capture.specs.Variables.{same_variable}
use Rattle.cc_capture.specs.Elements.{element_order, same_element}
use Rattle.cc_capture.specs.Sets.{Set, Member, empty, insert, from_list, retain, remove, union, image, flat_image}
use Rattle.cc_capture.specs.Sets.{is_subset, same_set}

-- any two elements compare, either way alike, and what comes before a third comes before what follows it
abbrev pub ElementOrderIsTotal : Type 0
ElementOrderIsTotal = IsTotalOrder element_order

-- two elements compare as equal exactly where they are one
abbrev pub EqualElementsAreOne : Type 0
EqualElementsAreOne = (a b : Elem) → (element_order a b ≡ Equal) ↔ (a ≡ b)

-- free variables come in the order of their positions
abbrev pub FreeVariablesRise : Type 0
FreeVariablesRise = (p q : ℕ) → p < q → element_order (Variable (Free p)) (Variable (Free q)) ≡ Less

-- a bound variable of an outer binder, whose index is larger, comes first
abbrev pub BoundVariablesFall : Type 0
BoundVariablesFall = (i j : ℕ) → i < j → element_order (Variable (Bound j)) (Variable (Bound i)) ≡ Less

-- holes come in the order of their numbers
abbrev pub HolesRise : Type 0
HolesRise = (m n : ℕ) → m < n → element_order (Hole m) (Hole n) ≡ Less

-- each free variable comes before each bound one
abbrev pub FreeBeforeBound : Type 0
FreeBeforeBound = (p i : ℕ) → element_order (Variable (Free p)) (Variable (Bound i)) ≡ Less

-- each bound variable comes before the universal capability
abbrev pub BoundBeforeCap : Type 0
BoundBeforeCap = (i : ℕ) → element_order (Variable (Bound i)) Cap ≡ Less

-- the universal capability comes before each hole
abbrev pub CapBeforeHoles : Type 0
CapBeforeHoles = (n : ℕ) → element_order Cap (Hole n) ≡ Less

-- the test of variables says whether they are one
abbrev pub SameVariableDecides : Type 0
SameVariableDecides = (a b : Var) → (same_variable a b ≡ true) ↔ (a ≡ b)

-- the test of elements says whether they are one
abbrev pub SameElementDecides : Type 0
SameElementDecides = (a b : Elem) → (same_element a b ≡ true) ↔ (a ≡ b)

-- the test of sets says whether they are one
abbrev pub SameSetDecides : Type 0
SameSetDecides = (a b : Set) → (same_set a b ≡ true) ↔ (a ≡ b)

-- sets with one list are one
abbrev pub SameListsAreOneSet : Type 0
SameListsAreOneSet = (a b : Set) → a.list ≡ b.list → a ≡ b

-- sets with the same members are one
abbrev pub SameMembersAreOneSet : Type 0
SameMembersAreOneSet =
    (a b : Set) → ((e : Elem) → Member e a → Member e b) → ((e : Elem) → Member e b → Member e a) → a ≡ b

-- the members of a set are the elements of its list
abbrev pub MembersAreListed : Type 0
MembersAreListed = (e : Elem) (s : Set) → Member e s ↔ Contains s.list e

-- nothing is a member of the empty set
abbrev pub MemberOfEmpty : Type 0
MemberOfEmpty = (e : Elem) → Member e empty → ⊥

-- the members after an insertion are the element and those before
abbrev pub MemberOfInsert : Type 0
MemberOfInsert = (e x : Elem) (s : Set) → Member e (insert x s) ↔ ((e ≡ x) ⊎ Member e s)

-- the members after a removal are those before, but for the element
abbrev pub MemberOfRemove : Type 0
MemberOfRemove = (e x : Elem) (s : Set) → Member e (remove x s) ↔ ((e ≢ x) × Member e s)

-- the members of a union are those of either set
abbrev pub MemberOfUnion : Type 0
MemberOfUnion = (e : Elem) (a b : Set) → Member e (union a b) ↔ (Member e a ⊎ Member e b)

-- the members of a list's set are the list's elements
abbrev pub MemberOfFromList : Type 0
MemberOfFromList =
    (e : Elem) (xs : List Elem) → Member e (from_list xs) ↔ Contains xs e

-- the members retained are those that pass the test
abbrev pub MemberOfRetain : Type 0
MemberOfRetain =
    (test : Elem → Bool) (e : Elem) (s : Set) → Member e (retain test s) ↔ ((test e ≡ true) × Member e s)

-- the members of an image are what the function makes of the members
abbrev pub MemberOfImage : Type 0
MemberOfImage =
    (f : Elem → Elem) (e : Elem) (s : Set) → Member e (image f s) ↔ ((x : Elem) × Member x s × (f x ≡ e))

-- the members of a flat image are those of the sets that the function makes of the members
abbrev pub MemberOfFlatImage : Type 0
MemberOfFlatImage =
    (f : Elem → Set) (e : Elem) (s : Set) → Member e (flat_image f s) ↔ ((x : Elem) × Member x s × Member e (f x))

-- the image of an image is that of one function after the other
abbrev pub ImagesCompose : Type 0
ImagesCompose = (f g : Elem → Elem) (s : Set) → image f (image g s) ≡ image (λ e. f (g e)) s

-- the function that leaves each element as it is leaves each set as it is
abbrev pub IdentityKeepsSets : Type 0
IdentityKeepsSets = (s : Set) → image (λ e. e) s ≡ s

-- functions that agree on the members give one image
abbrev pub ImagesAgree : Type 0
ImagesAgree = (f g : Elem → Elem) (s : Set) → ((e : Elem) → Member e s → f e ≡ g e) → image f s ≡ image g s

-- the image of a union is the union of the images
abbrev pub ImageOfUnion : Type 0
ImageOfUnion = (f : Elem → Elem) (a b : Set) → image f (union a b) ≡ union (image f a) (image f b)

-- the flat image of a flat image is that of one function after the other
abbrev pub FlatImagesCompose : Type 0
FlatImagesCompose =
    (f g : Elem → Set) (s : Set) → flat_image f (flat_image g s) ≡ flat_image (λ e. flat_image f (g e)) s

-- functions that make the same sets of the members give one flat image
abbrev pub FlatImagesAgree : Type 0
FlatImagesAgree =
    (f g : Elem → Set) (s : Set) → ((e : Elem) → Member e s → f e ≡ g e) → flat_image f s ≡ flat_image g s

-- the flat image of a union is the union of the flat images
abbrev pub FlatImageOfUnion : Type 0
FlatImageOfUnion =
    (f : Elem → Set) (a b : Set) → flat_image f (union a b) ≡ union (flat_image f a) (flat_image f b)

-- an image is a flat image of sets with one member each
abbrev pub FlatImageOfSingles : Type 0
FlatImageOfSingles = (f : Elem → Elem) (s : Set) → flat_image (λ e. insert (f e) empty) s ≡ image f s

-- the test of inclusion says whether each member of one set is a member of the other
abbrev pub SubsetDecidesInclusion : Type 0
SubsetDecidesInclusion =
    (a b : Set) → (is_subset a b ≡ true) ↔ ((e : Elem) → Member e a → Member e b)

-- of three sets it does not matter which two are united first
abbrev pub UnionIsAssociative : Type 0
UnionIsAssociative = (a b c : Set) → union (union a b) c ≡ union a (union b c)

-- nor which of two sets comes first
abbrev pub UnionIsCommutative : Type 0
UnionIsCommutative = (a b : Set) → union a b ≡ union b a

-- a set united with itself is itself
abbrev pub UnionIsIdempotent : Type 0
UnionIsIdempotent = (a : Set) → union a a ≡ a

-- the union with the empty set, on either side, is the set itself
abbrev pub EmptyIsUnitOfUnion : Type 0
EmptyIsUnitOfUnion = (a : Set) → (union empty a ≡ a) × (union a empty ≡ a)
