-- Certificates judged: the tree of the nodes, its claims as they are read at their places, and the answer.
use Rattle.std.specs.Prelude.{◌≡◌, ℕ, zero, suc, ◌+◌, ◌-◌, nat_eq, nat_lt, Bool, true, false, ◌&&◌}
use Rattle.std.specs.Prelude.{List, [], ◌∷◌, ◌++◌, length, map, Option, Some, None, if◌then◌else◌}
use Rattle.cc_capture.specs.declared.var.Var.{Var}
use Rattle.cc_capture.specs.declared.var.Var.TheVariants.{Bound, Free}
use Rattle.cc_capture.specs.Sets.{empty}
use Rattle.cc_core.specs.declared.types.Ty.{Ty}
use Rattle.cc_core.specs.TermViews.{type_of}
use Rattle.cc_core.specs.Shapes.{AnyShape, CapturingType, capturing}
use Rattle.cc_core.specs.Terms.{Term}
use Rattle.cc_core.specs.Contexts.{Context, entry_of}
use Rattle.cc_core.specs.Traversal.{Action, act, act_set, act_type}
use Rattle.cc_core.specs.Substitution.{moving}
use Rattle.cc_core.specs.WellFormed.{Kind, TermKind, TypeKind, kinds_of, is_well_formed_set, is_well_formed_shape}
use Rattle.cc_core.specs.WellFormed.{is_well_formed_type}
use Rattle.cc_core.specs.Derivations.{Rule, ByFunction, ByTypeFunction, t-abs, t-tabs, t-let, t-boundary, Claim}
use Rattle.cc_core.specs.Derivations.{SetBelow, ShapeBelow, TypeBelow, OfType, Derivation, Node, Premises, NoPremise}
use Rattle.cc_core.specs.Derivations.{Premise, Concludes, IsValidTyping}
use Rattle.cc_derivation.specs.Rows.{TypeOf}
use Rattle.cc_derivation.specs.Broken.{broken, IsLeast}
use Rattle.cc_certificate_text.specs.Certificates.{CertificateNode, ClaimKind, OfSets, rule_kind}
use Rattle.cc_certificate_reading.specs.declared.certificate.Cert.{Cert}

mutual
  -- The nodes of a certificate as a tree: each has its rule, the number of its claim's outermost binders where it has a
  -- binder, the claim with the numbers that are written, and its premises in order.
  pub data NodeTree : Type 0 where
    Grown : (rule : Rule) (first : Option ℕ) (claim : Claim) (premises : NodeTrees) → NodeTree

  pub data NodeTrees : Type 0 where
    NoTree : NodeTrees
    Tree : (tree : NodeTree) (rest : NodeTrees) → NodeTrees

abbrev mutual
  -- how many nodes a tree has
  pub size_of : NodeTree → ℕ
  size_of (Grown rule first claim premises) = 1 + sizes_of premises

  -- how many the trees have together
  pub sizes_of : NodeTrees → ℕ
  sizes_of NoTree = 0
  sizes_of (Tree tree rest) = size_of tree + sizes_of rest

-- the numbers of the last nodes of the trees, where so many nodes come before them
abbrev pub root_numbers : ℕ → NodeTrees → List ℕ
root_numbers before NoTree = []
root_numbers before (Tree tree rest) = (before + size_of tree) ∷ root_numbers (before + size_of tree) rest

abbrev mutual
  -- The nodes in post-order, each with the numbers of its premises, where so many nodes come before the tree.
  pub listed : ℕ → NodeTree → List CertificateNode
  listed before (Grown rule first claim premises) =
      listed_all before premises
      ++ record { rule = rule; premises = root_numbers before premises; first = first; claim = claim } ∷ []

  -- the same of trees, one after the other
  pub listed_all : ℕ → NodeTrees → List CertificateNode
  listed_all before NoTree = []
  listed_all before (Tree tree rest) = listed before tree ++ listed_all (before + size_of tree) rest

-- The binder under which the first premise of a rule stands beside those of the node itself: that of a function, of a
-- type function, or of the exit of a boundary.
abbrev pub first_binder : Rule → Option Kind
first_binder t-abs = Some TermKind
first_binder t-tabs = Some TypeKind
first_binder t-boundary = Some TermKind
first_binder _ = None

-- that of the second premise: the body of a let, or the results of functions or of type functions
abbrev pub second_binder : Rule → Option Kind
second_binder t-let = Some TermKind
second_binder ByFunction = Some TermKind
second_binder ByTypeFunction = Some TypeKind
second_binder _ = None

-- that of the premise of the index; no other premise stands under a binder more
abbrev pub binder_at : Rule → ℕ → Option Kind
binder_at rule index =
    if nat_eq index 0 then first_binder rule else (if nat_eq index 1 then second_binder rule else None)

-- the kinds in scope, the innermost binder's first, with that of the binder
abbrev pub under_binder : Option Kind → List Kind → List Kind
under_binder None kinds = kinds
under_binder (Some kind) kinds = kind ∷ kinds

-- The variable that the number names in a claim, under so many binders of the claim, where so many local binders stand
-- behind the names. A number below that of the local binders is a local binder's position. From there on the numbers
-- are those of the claim's binders, from the outermost on, which are written as indices. A number that no binder has
-- becomes an index that no binder has.
abbrev pub numbered : ℕ → ℕ → ℕ → ℕ → Var
numbered names locals depth number =
    if nat_lt number locals then Free (names + number)
    else (if nat_lt (number - locals) depth then Bound (depth - suc (number - locals)) else Bound number)

-- the same of a variable as it is written
abbrev pub read_variable : ℕ → ℕ → ℕ → Var → Var
read_variable names locals depth (Bound number) = numbered names locals depth number
read_variable names locals depth (Free position) = Free position

-- reads each variable
abbrev pub reading : ℕ → ℕ → Action
reading names locals = moving (read_variable names locals)

-- the claim, read where so many local binders stand behind so many names
abbrev pub read_claim : ℕ → ℕ → Claim → Claim
read_claim names locals (SetBelow left right) =
    SetBelow (act_set (reading names locals) zero left) (act_set (reading names locals) zero right)
read_claim names locals (ShapeBelow left right) =
    ShapeBelow (act (reading names locals) zero left) (act (reading names locals) zero right)
read_claim names locals (TypeBelow left right) =
    TypeBelow (act_type (reading names locals) zero left) (act_type (reading names locals) zero right)
read_claim names locals (OfType type) = OfType (act_type (reading names locals) zero type)

-- whether each variable of the claim is in scope, and of the kind of the place where it stands
abbrev pub is_in_scope : List Kind → Claim → Bool
is_in_scope kinds (SetBelow left right) = is_well_formed_set kinds [] left && is_well_formed_set kinds [] right
is_in_scope kinds (ShapeBelow left right) = is_well_formed_shape kinds [] left && is_well_formed_shape kinds [] right
is_in_scope kinds (TypeBelow left right) = is_well_formed_type kinds [] left && is_well_formed_type kinds [] right
is_in_scope kinds (OfType type) = is_well_formed_type kinds [] type

-- whether the outermost binders, where there are some, have the number
abbrev pub begins_at : ℕ → Option ℕ → Bool
begins_at locals None = true
begins_at locals (Some first) = nat_eq first locals

-- The names of the claim fit its place, where so many of the kinds in scope are those of names: its binders begin at
-- the number of the local binders, and each variable is in scope and of the kind of its place.
abbrev pub fits_place : ℕ → List Kind → Option ℕ → Claim → Bool
fits_place names kinds first claim =
    begins_at (length kinds - names) first && is_in_scope kinds (read_claim names (length kinds - names) claim)

-- whether the kind is that of comparisons of sets
abbrev pub is_of_sets : ClaimKind → Bool
is_of_sets OfSets = true
is_of_sets _ = false

-- a claim that is not of the kind
abbrev pub claim_of_another_kind : ClaimKind → Claim
claim_of_another_kind kind =
    if is_of_sets kind then OfType (capturing AnyShape empty) else SetBelow empty empty

-- The claim of a node, as it is read at its place. A node whose names do not fit its place gets a claim of a kind that
-- its rule does not conclude, so that it breaks its rule wherever it has a place, and the nodes in the trees of its
-- premises have none. If it is the first premise of a let, then no type is claimed for the right side of the let: so
-- the let breaks its rule too, and the nodes in the tree of its second premise have no place. Any other node of which
-- it is a premise breaks its rule too, which changes no answer: the numbers of premises are less than that of the node,
-- and the least number of a node that breaks its rule is what is told.
abbrev pub claim_at : ℕ → List Kind → Rule → Option ℕ → Claim → Claim
claim_at names kinds rule first claim =
    if fits_place names kinds first claim
    then read_claim names (length kinds - names) claim
    else claim_of_another_kind (rule_kind rule)

abbrev mutual
  -- The derivation that the tree is at a place where the kinds are in scope, the first ones those of so many names.
  -- Which binders stand at the places of premises is told by the rules alone.
  pub read_tree : ℕ → List Kind → NodeTree → Derivation
  read_tree names kinds (Grown rule first claim premises) =
      Node rule (read_trees names kinds rule 0 premises) (claim_at names kinds rule first claim)

  -- the premises of a node of the rule, from the index on
  pub read_trees : ℕ → List Kind → Rule → ℕ → NodeTrees → Premises
  read_trees names kinds rule index NoTree = NoPremise
  read_trees names kinds rule index (Tree tree rest) =
      Premise (read_tree names (under_binder (binder_at rule index) kinds) tree)
      (read_trees names kinds rule (suc index) rest)

-- the context of binds with the types, in order, behind a context
abbrev pub with_binds : Context → List CapturingType → Context
with_binds context [] = context
with_binds context (type ∷ types) = with_binds (entry_of type ∷ context) types

-- the type of a bind
abbrev pub bind_type : List ℕ × Ty → CapturingType
bind_type bind = type_of bind.1

-- the context of a certificate's binds
abbrev pub binds_of : Cert → Context
binds_of cert = with_binds [] (map bind_type cert.binds.items)

-- What is found of a certificate: it is valid and concludes the type, or it is not, and the number is that of a node
-- that breaks its rule.
pub data Judgement : Type 0 where
  IsValidAt : (type : CapturingType) → Judgement
  IsBadNode : (number : ℕ) → Judgement

-- The derivation is valid for the term and concludes the type; or it is not, and this is the least number of a node
-- that breaks its rule.
abbrev pub IsAnswer : Context → Term → Derivation → Judgement → Type 0
IsAnswer context term derivation (IsValidAt type) =
    IsValidTyping context term derivation × Concludes derivation (OfType type)
IsAnswer context term derivation (IsBadNode number) = IsLeast number (broken 0 (TypeOf context term) derivation)

-- The nodes are those of a tree in post-order, and the answer is that for the tree as it is read in the context.
pub record IsJudged (context : Context) (term : Term) (nodes : List CertificateNode) (answer : Judgement) :
    Type 0 where
  pub tree : NodeTree
  pub whole : listed 0 tree ≡ nodes
  pub told : IsAnswer context term (read_tree (length context) (kinds_of context) tree) answer
