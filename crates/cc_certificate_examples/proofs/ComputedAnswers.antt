-- What is found of bytes as a certificate, by computation.
use Rattle.std.proofs.Common.{◌≡◌, ℕ, List, [], ◌∷◌, ◌++◌, length, map, Option, Some, None, refl, sym, ap, subst, ◌∙◌}
use Rattle.std.specs.Option.{option_map, option_and_then}
use Rattle.std.specs.Prelude.{take, drop, ◌-◌}
use Rattle.cc_core.specs.Shapes.{CapturingType}
use Rattle.cc_core.specs.Terms.{Term}
use Rattle.cc_core.specs.Contexts.{Context}
use Rattle.cc_core.specs.WellFormed.{kinds_of}
use Rattle.cc_core.specs.Derivations.{Claim, SetBelow, ShapeBelow, TypeBelow, OfType, Derivation, conclusion}
use Rattle.cc_derivation.specs.Numbers.{own_number}
use Rattle.cc_derivation.specs.Rows.{TypeOf}
use Rattle.cc_derivation.specs.Broken.{broken, IsLeast}
use Rattle.cc_derivation.specs.ValidityLaws.{RiseWithin}
use Rattle.cc_derivation.proofs.BrokenNodes.{valid_typings}
use Rattle.cc_derivation.proofs.RisingNumbers.{numbers_rise, first_is_least}
use Rattle.cc_certificate_text.specs.Certificates.{CertificateNode, Line, Opens, Binds, States, Concludes, Start, IsCertificate}
use Rattle.cc_certificate_judging.specs.CertificateParts.{CertificateBind, bind_line, parts_lines, bound_context, bound_names}
use Rattle.cc_certificate_judging.specs.Judging.{NodeTree, Grown, NodeTrees, NoTree, Tree, listed, read_tree, Judgement, IsValidAt, IsBadNode, IsJudged, IsAnswer}
use Rattle.cc_certificate_judging.specs.Answers.{Found, ProvesType, HasBadLine, HasBadNode, IsFound, found_text}
use Rattle.cc_certificate_judging.proofs.FormedAnswers.{parts_have_type}
use Rattle.cc_certificate_examples.specs.FoundTexts.{Says}
use Rattle.cc_certificate_text.proofs.Certified.{come-nowhere}
use Rattle.cc_certificate_examples.proofs.ComputedLines.{Outcome, AllLines, BadLine, TooFew, ComesTo, read_from, read_comes}

-- PARTS

-- the parts of a certificate
pub record Parts : Type 0 where
  pub binds : List CertificateBind
  pub term : Term
  pub nodes : List CertificateNode

-- the nodes of lines that are nodes alone
abbrev nodes_of : List Line → Option (List CertificateNode)
nodes_of [] = Some []
nodes_of (Opens ∷ lines) = None
nodes_of (Binds name type ∷ lines) = None
nodes_of (States term ∷ lines) = None
nodes_of (Concludes node ∷ lines) = option_map (λ nodes. node ∷ nodes) (nodes_of lines)

-- the parts of lines behind the first one
abbrev inner_parts : List Line → Option Parts
inner_parts [] = None
inner_parts (Opens ∷ lines) = None
inner_parts (Binds name type ∷ lines) =
    option_map (λ parts. record { binds = (name, type) ∷ parts.binds; term = parts.term; nodes = parts.nodes })
    (inner_parts lines)
inner_parts (States term ∷ lines) =
    option_map (λ nodes. record { binds = []; term = term; nodes = nodes }) (nodes_of lines)
inner_parts (Concludes node ∷ lines) = None

abbrev pub parts_of : List Line → Option Parts
parts_of [] = None
parts_of (Opens ∷ lines) = inner_parts lines
parts_of (Binds name type ∷ lines) = None
parts_of (States term ∷ lines) = None
parts_of (Concludes node ∷ lines) = None

-- what was made of what is there
map_some : {A B : Type 0} (build : A → B) (o : Option A) (y : B) → option_map build o ≡ Some y
    → (x : A) × (o ≡ Some x) × (build x ≡ y)
map_some build None y e = cc
map_some build (Some x) y e = (x, refl, some_same (build x) y e)
  where
    some_same : {B : Type 0} (a b : B) → Some a ≡ Some b → a ≡ b
    some_same a b e = cc

are_nodes : (lines : List Line) (nodes : List CertificateNode) → nodes_of lines ≡ Some nodes → lines ≡ map Concludes nodes
are_nodes [] nodes e = no_nodes nodes e
  where
    no_nodes : (nodes : List CertificateNode) → Some [] ≡ Some nodes → [] ≡ map Concludes nodes
    no_nodes [] e = refl
    no_nodes (node ∷ nodes) e = cc
are_nodes (Opens ∷ lines) nodes e = cc
are_nodes (Binds name type ∷ lines) nodes e = cc
are_nodes (States term ∷ lines) nodes e = cc
are_nodes (Concludes node ∷ lines) nodes e =
    let m = map_some (λ nodes. node ∷ nodes) (nodes_of lines) nodes e in
    ap (λ l. Concludes node ∷ l) (are_nodes lines m.0 m.1) ∙ ap (λ l. map Concludes l) m.2

-- the lines of the parts behind the first one
abbrev inner_lines : Parts → List Line
inner_lines parts = map bind_line parts.binds ++ States parts.term ∷ map Concludes parts.nodes

are_inner : (lines : List Line) (parts : Parts) → inner_parts lines ≡ Some parts → lines ≡ inner_lines parts
are_inner [] parts e = cc
are_inner (Opens ∷ lines) parts e = cc
are_inner (Binds name type ∷ lines) parts e =
    let m = map_some (λ (parts : Parts). record { binds = (name, type) ∷ parts.binds; term = parts.term; nodes = parts.nodes })
    (inner_parts lines) parts e in
    ap (λ l. Binds name type ∷ l) (are_inner lines m.0 m.1) ∙ ap inner_lines m.2
are_inner (States term ∷ lines) parts e =
    let m = map_some (λ (nodes : List CertificateNode). record { binds = []; term = term; nodes = nodes }) (nodes_of lines) parts e in
    ap (λ l. States term ∷ l) (are_nodes lines m.0 m.1) ∙ ap inner_lines m.2
are_inner (Concludes node ∷ lines) parts e = cc

are_parts : (lines : List Line) (parts : Parts) → parts_of lines ≡ Some parts
    → lines ≡ parts_lines parts.binds parts.term parts.nodes
are_parts [] parts e = cc
are_parts (Opens ∷ lines) parts e = ap (λ l. Opens ∷ l) (are_inner lines parts e)
are_parts (Binds name type ∷ lines) parts e = cc
are_parts (States term ∷ lines) parts e = cc
are_parts (Concludes node ∷ lines) parts e = cc

-- TREES

-- the first trees, and those behind them
abbrev trees_of : List NodeTree → NodeTrees
trees_of [] = NoTree
trees_of (tree ∷ trees) = Tree tree (trees_of trees)

-- the trees that stand, the oldest first, with a node, which takes the last ones
abbrev with_node : List NodeTree → CertificateNode → List NodeTree
with_node trees node =
    take (length trees - length node.premises) trees
    ++ Grown node.rule node.first node.claim (trees_of (drop (length trees - length node.premises) trees)) ∷ []

abbrev with_nodes : List NodeTree → List CertificateNode → List NodeTree
with_nodes trees [] = trees
with_nodes trees (node ∷ nodes) = with_nodes (with_node trees node) nodes

abbrev first_tree : List NodeTree → Option NodeTree
first_tree [] = None
first_tree (tree ∷ trees) = Some tree

-- the tree of the nodes
abbrev pub tree_of : List CertificateNode → Option NodeTree
tree_of nodes = first_tree (with_nodes [] nodes)

-- ANSWERS

abbrev derivation_of : Parts → NodeTree → Derivation
derivation_of parts tree = read_tree (length (bound_context parts.binds)) (kinds_of (bound_context parts.binds)) tree

-- the judgement by the broken nodes and by what is concluded
abbrev judgement_by : List ℕ → Claim → Option Judgement
judgement_by (number ∷ others) claim = Some (IsBadNode number)
judgement_by [] (OfType type) = Some (IsValidAt type)
judgement_by [] (SetBelow left right) = None
judgement_by [] (ShapeBelow left right) = None
judgement_by [] (TypeBelow left right) = None

abbrev judgement_of : Parts → NodeTree → Option Judgement
judgement_of parts tree =
    judgement_by (broken 0 (TypeOf (bound_context parts.binds) parts.term) (derivation_of parts tree))
    (conclusion (derivation_of parts tree))

abbrev found_by : Parts → Judgement → Found
found_by parts (IsValidAt type) = ProvesType (bound_names parts.binds) type
found_by parts (IsBadNode number) = HasBadNode number

-- What is found of the parts with the tree, of whatever lines come, and of bytes in so many steps.
abbrev answer_of_tree : Parts → NodeTree → Option Found
answer_of_tree parts tree = option_map (found_by parts) (judgement_of parts tree)

abbrev answer_of_parts : Parts → Option Found
answer_of_parts parts = option_and_then (answer_of_tree parts) (tree_of parts.nodes)

abbrev answer_of : Outcome → Option Found
answer_of (AllLines lines) = option_and_then answer_of_parts (parts_of lines)
answer_of (BadLine number) = Some (HasBadLine number)
answer_of TooFew = None

abbrev pub answer_in : ℕ → List ℕ → Option Found
answer_in steps bytes = answer_of (read_from steps [] Start bytes)

-- the nodes are those of the tree, in post-order
abbrev ListsTree : List CertificateNode → Option NodeTree → Type 0
ListsTree nodes (Some tree) = listed 0 tree ≡ nodes
ListsTree nodes None = Unit {0}

abbrev ListsParts : Option Parts → Type 0
ListsParts (Some parts) = ListsTree parts.nodes (tree_of parts.nodes)
ListsParts None = Unit {0}

abbrev ListsLines : Outcome → Type 0
ListsLines (AllLines lines) = ListsParts (parts_of lines)
ListsLines (BadLine number) = Unit {0}
ListsLines TooFew = Unit {0}

abbrev pub Lists : ℕ → List ℕ → Type 0
Lists steps bytes = ListsLines (read_from steps [] Start bytes)

is_answer : (context : Context) (term : Term) (derivation : Derivation) (numbers : List ℕ) (claim : Claim)
    → broken 0 (TypeOf context term) derivation ≡ numbers → conclusion derivation ≡ claim → (judgement : Judgement)
    → judgement_by numbers claim ≡ Some judgement → IsAnswer context term derivation judgement
is_answer context term derivation (number ∷ others) claim e is (IsValidAt type) j = cc
is_answer context term derivation (number ∷ others) claim e is (IsBadNode least) j =
    let rises = subst (λ l. RiseWithin 0 l (own_number 0 derivation)) e (numbers_rise 0 (TypeOf context term) derivation) in
    let first : IsLeast number (broken 0 (TypeOf context term) derivation) =
    subst (IsLeast number) (sym e) (first_is_least 0 (own_number 0 derivation) number others rises) in
    subst (λ n. IsLeast n (broken 0 (TypeOf context term) derivation)) (same_number number least j) first
  where
    same_number : (a b : ℕ) → Some (IsBadNode a) ≡ Some (IsBadNode b) → a ≡ b
    same_number a b e = cc
is_answer context term derivation [] (OfType type) e is (IsValidAt other) j =
    ((valid_typings 0 context term derivation).0 e, is ∙ ap OfType (same_type type other j))
  where
    same_type : (a b : CapturingType) → Some (IsValidAt a) ≡ Some (IsValidAt b) → a ≡ b
    same_type a b e = cc
is_answer context term derivation [] (OfType type) e is (IsBadNode number) j = cc
is_answer context term derivation [] (SetBelow left right) e is judgement j = cc
is_answer context term derivation [] (ShapeBelow left right) e is judgement j = cc
is_answer context term derivation [] (TypeBelow left right) e is judgement j = cc

judged_found : (bytes : List ℕ) (parts : Parts) → IsCertificate bytes (parts_lines parts.binds parts.term parts.nodes)
    → (judgement : Judgement) → IsJudged (bound_context parts.binds) parts.term parts.nodes judgement
    → IsFound bytes (found_by parts judgement)
judged_found bytes parts is (IsValidAt type) judged = record {
  binds = parts.binds;
  term = parts.term;
  nodes = parts.nodes;
  certificate = is;
  named = refl;
  judged = judged;
  typed = parts_have_type parts.binds parts.term parts.nodes type is.fit judged;
}
judged_found bytes parts is (IsBadNode number) judged =
    record { binds = parts.binds; term = parts.term; nodes = parts.nodes; certificate = is; judged = judged }

tree_found : (bytes : List ℕ) (parts : Parts) → IsCertificate bytes (parts_lines parts.binds parts.term parts.nodes)
    → (tree : Option NodeTree) → ListsTree parts.nodes tree → (found : Found)
    → option_and_then (answer_of_tree parts) tree ≡ Some found → IsFound bytes found
tree_found bytes parts is None lists found e = cc
tree_found bytes parts is (Some tree) lists found e =
    let m = map_some (found_by parts) (judgement_of parts tree) found e in
    let told = is_answer (bound_context parts.binds) parts.term (derivation_of parts tree) _ _ refl refl m.0 m.1 in
    subst (IsFound bytes) m.2 (judged_found bytes parts is m.0 (record { tree = tree; whole = lists; told = told }))

parts_found : (bytes : List ℕ) (lines : List Line) → IsCertificate bytes lines → (parts : Option Parts)
    → parts_of lines ≡ parts → ListsParts parts → (found : Found)
    → option_and_then answer_of_parts parts ≡ Some found → IsFound bytes found
parts_found bytes lines is None are lists found e = cc
parts_found bytes lines is (Some parts) are lists found e =
    tree_found bytes parts (subst (IsCertificate bytes) (are_parts lines parts are) is) (tree_of parts.nodes) lists found e

outcome_found : (bytes : List ℕ) (outcome : Outcome) → ComesTo bytes outcome → ListsLines outcome → (found : Found)
    → answer_of outcome ≡ Some found → IsFound bytes found
outcome_found bytes (AllLines lines) comes lists found e = parts_found bytes lines comes (parts_of lines) refl lists found e
outcome_found bytes (BadLine number) comes lists found e = subst (IsFound bytes) (same_found (HasBadLine number) found e) comes
  where
    same_found : (a b : Found) → Some a ≡ Some b → a ≡ b
    same_found a b e = cc
outcome_found bytes TooFew comes lists found e = cc

-- what is computed is found
pub found_in : (steps : ℕ) (bytes : List ℕ) (found : Found) → Lists steps bytes → answer_in steps bytes ≡ Some found
    → IsFound bytes found
found_in steps bytes found lists e =
    outcome_found bytes (read_from steps [] Start bytes) (read_comes bytes steps [] Start bytes (come-nowhere Start bytes) tt)
    lists found e

-- and so it is with its text
pub says : (steps : ℕ) (bytes written : List ℕ) → Lists steps bytes
    → option_map found_text (answer_in steps bytes) ≡ Some written → Says bytes written
says steps bytes written lists e =
    let m = map_some found_text (answer_in steps bytes) written e in (m.0, found_in steps bytes m.0 lists m.1, m.2)
