-- The passes over the nodes of a tree read its claims and build its derivation.
use Rattle.std.proofs.Common.{◌≡◌, ℕ, suc, ◌+◌, List, [], ◌∷◌, ◌++◌, length, refl, ap, sym, ◌∙◌, subst, arith}
use mathlib.Core.List.{reverse}
use Rattle.std.proofs.lemmas.List.{append-nil, append_assoc, reverse-append, length-append}
use Rattle.cc_core.specs.WellFormed.{Kind}
use Rattle.cc_core.specs.Derivations.{Rule, Derivation, Node, Premises, Premise}
use Rattle.cc_checking.specs.DerivationSizes.{nodes, nodes_of}
use Rattle.cc_certificate_text.specs.Certificates.{CertificateNode}
use Rattle.cc_certificate_judging.specs.Judging.{NodeTree, Grown, NodeTrees, NoTree, Tree, size_of, sizes_of, root_numbers, listed, listed_all, under_binder, binder_at, claim_at, read_tree, read_trees}
use Rattle.cc_certificate_judging.specs.Passes.{PlainReadNode, kinds_above, AreRead, as_premises, Builds}

-- a last element, and two lists, the other way round
reverse_push : {A : Type 0} (xs : List A) (x : A) (ys : List A) → reverse (xs ++ x ∷ []) ++ ys ≡ x ∷ (reverse xs ++ ys)
reverse_push xs x ys = ap (λ l. l ++ ys) (reverse-append xs (x ∷ []))

reverse_join : {A : Type 0} (xs ys zs : List A) → reverse (xs ++ ys) ++ zs ≡ reverse ys ++ (reverse xs ++ zs)
reverse_join xs ys zs = ap (λ l. l ++ zs) (reverse-append xs ys) ∙ append_assoc (reverse ys) (reverse xs) zs

abbrev mutual
  -- the nodes of a tree as they are read, in post-order
  pub reads_of : ℕ → ℕ → List Kind → NodeTree → List PlainReadNode
  reads_of names before kinds (Grown rule first claim premises) =
      reads_among names before kinds rule 0 premises
      ++ record { rule = rule; count = length (root_numbers before premises); claim = claim_at names kinds rule first claim } ∷ []

  pub reads_among : ℕ → ℕ → List Kind → Rule → ℕ → NodeTrees → List PlainReadNode
  reads_among names before kinds rule index NoTree = []
  reads_among names before kinds rule index (Tree tree rest) =
      reads_of names before (under_binder (binder_at rule index) kinds) tree
      ++ reads_among names (before + size_of tree) kinds rule (suc index) rest

mutual
  -- the first pass over a tree
  pub tree_is_read : (names before : ℕ) (kinds : List Kind) (tree : NodeTree) (waiting : List (List Kind)) (nodes : List CertificateNode) (reads : List PlainReadNode)
      → AreRead names waiting nodes reads
      → AreRead names (waiting ++ kinds ∷ []) (reverse (listed before tree) ++ nodes) (reverse (reads_of names before kinds tree) ++ reads)
  tree_is_read names before kinds (Grown rule first claim premises) waiting nodes reads h =
      let node : CertificateNode = record { rule = rule; premises = root_numbers before premises; first = first; claim = claim } in
      let read : PlainReadNode = record { rule = rule; count = length (root_numbers before premises); claim = claim_at names kinds rule first claim } in
      let others = reads_among names before kinds rule 0 premises in
      subst (λ (l : List CertificateNode). AreRead names (waiting ++ kinds ∷ []) l (reverse (others ++ read ∷ []) ++ reads))
      (sym (reverse_push (listed_all before premises) node nodes))
      (subst (λ (r : List PlainReadNode). AreRead names (waiting ++ kinds ∷ []) (node ∷ (reverse (listed_all before premises) ++ nodes)) r)
      (sym (reverse_push others read reads))
      (waiting, kinds, reverse others ++ reads, refl, refl, trees_are_read names before kinds rule 0 premises waiting nodes reads h))

  pub trees_are_read : (names before : ℕ) (kinds : List Kind) (rule : Rule) (index : ℕ) (trees : NodeTrees) (waiting : List (List Kind)) (nodes : List CertificateNode) (reads : List PlainReadNode)
      → AreRead names waiting nodes reads
      → AreRead names (waiting ++ kinds_above kinds rule index (length (root_numbers before trees)))
      (reverse (listed_all before trees) ++ nodes) (reverse (reads_among names before kinds rule index trees) ++ reads)
  trees_are_read names before kinds rule index NoTree waiting nodes reads h =
      subst (λ (w : List (List Kind)). AreRead names w nodes reads) (sym (append-nil waiting)) h
  trees_are_read names before kinds rule index (Tree tree rest) waiting nodes reads h =
      let own = under_binder (binder_at rule index) kinds in
      let after = before + size_of tree in
      let above = kinds_above kinds rule (suc index) (length (root_numbers after rest)) in
      let first = tree_is_read names before own tree waiting nodes reads h in
      let others = trees_are_read names after kinds rule (suc index) rest (waiting ++ own ∷ []) (reverse (listed before tree) ++ nodes) (reverse (reads_of names before own tree) ++ reads) first in
      subst (λ (w : List (List Kind)). AreRead names w (reverse (listed before tree ++ listed_all after rest) ++ nodes) (reverse (reads_of names before own tree ++ reads_among names after kinds rule (suc index) rest) ++ reads))
      (append_assoc waiting (own ∷ []) above)
      (subst (λ (l : List CertificateNode). AreRead names ((waiting ++ own ∷ []) ++ above) l (reverse (reads_of names before own tree ++ reads_among names after kinds rule (suc index) rest) ++ reads))
      (sym (reverse_join (listed before tree) (listed_all after rest) nodes))
      (subst (λ (r : List PlainReadNode). AreRead names ((waiting ++ own ∷ []) ++ above) (reverse (listed_all after rest) ++ (reverse (listed before tree) ++ nodes)) r)
      (sym (reverse_join (reads_of names before own tree) (reads_among names after kinds rule (suc index) rest) reads)) others))

-- the derivations of trees, in order
abbrev pub derivations : ℕ → List Kind → Rule → ℕ → NodeTrees → List Derivation
derivations names kinds rule index NoTree = []
derivations names kinds rule index (Tree tree rest) =
    read_tree names (under_binder (binder_at rule index) kinds) tree ∷ derivations names kinds rule (suc index) rest

premises-derivations : (names : ℕ) (kinds : List Kind) (rule : Rule) (index : ℕ) (trees : NodeTrees)
    → as_premises (derivations names kinds rule index trees) ≡ read_trees names kinds rule index trees
premises-derivations names kinds rule index NoTree = refl
premises-derivations names kinds rule index (Tree tree rest) =
    ap (Premise (read_tree names (under_binder (binder_at rule index) kinds) tree)) (premises-derivations names kinds rule (suc index) rest)

length-derivations : (names before : ℕ) (kinds : List Kind) (rule : Rule) (index : ℕ) (trees : NodeTrees)
    → length (derivations names kinds rule index trees) ≡ length (root_numbers before trees)
length-derivations names before kinds rule index NoTree = refl
length-derivations names before kinds rule index (Tree tree rest) =
    ap suc (length-derivations names (before + size_of tree) kinds rule (suc index) rest)

mutual
  -- the second pass over a tree
  pub tree_builds : (names before : ℕ) (kinds : List Kind) (tree : NodeTree) (built : List Derivation) (rest : List PlainReadNode) (root : Derivation)
      → Builds (built ++ read_tree names kinds tree ∷ []) rest root
      → Builds built (reads_of names before kinds tree ++ rest) root
  tree_builds names before kinds (Grown rule first claim premises) built rest root h =
      let read : PlainReadNode = record { rule = rule; count = length (root_numbers before premises); claim = claim_at names kinds rule first claim } in
      let others = reads_among names before kinds rule 0 premises in
      let above = derivations names kinds rule 0 premises in
      let over : Builds (built ++ Node rule (as_premises above) (claim_at names kinds rule first claim) ∷ []) rest root =
      subst (λ (p : Premises). Builds (built ++ Node rule p (claim_at names kinds rule first claim) ∷ []) rest root)
      (sym (premises-derivations names kinds rule 0 premises)) h in
      subst (λ (l : List PlainReadNode). Builds built l root) (sym (append_assoc others (read ∷ []) rest))
      (trees_build names before kinds rule 0 premises built (read ∷ rest) root
      (built, above, refl, length-derivations names before kinds rule 0 premises, over))

  pub trees_build : (names before : ℕ) (kinds : List Kind) (rule : Rule) (index : ℕ) (trees : NodeTrees) (built : List Derivation) (rest : List PlainReadNode) (root : Derivation)
      → Builds (built ++ derivations names kinds rule index trees) rest root
      → Builds built (reads_among names before kinds rule index trees ++ rest) root
  trees_build names before kinds rule index NoTree built rest root h =
      subst (λ (b : List Derivation). Builds b rest root) (append-nil built) h
  trees_build names before kinds rule index (Tree tree others) built rest root h =
      let own = under_binder (binder_at rule index) kinds in
      let after = before + size_of tree in
      let d = read_tree names own tree in
      let shifted : Builds ((built ++ d ∷ []) ++ derivations names kinds rule (suc index) others) rest root =
      subst (λ (b : List Derivation). Builds b rest root) (sym (append_assoc built (d ∷ []) (derivations names kinds rule (suc index) others))) h in
      subst (λ (l : List PlainReadNode). Builds built l root)
      (sym (append_assoc (reads_of names before own tree) (reads_among names after kinds rule (suc index) others) rest))
      (tree_builds names before own tree built (reads_among names after kinds rule (suc index) others ++ rest) root
      (trees_build names after kinds rule (suc index) others (built ++ d ∷ []) rest root shifted))

mutual
  -- the derivation has the nodes of the tree
  pub nodes-read_tree : (names : ℕ) (kinds : List Kind) (tree : NodeTree) → nodes (read_tree names kinds tree) ≡ size_of tree
  nodes-read_tree names kinds (Grown rule first claim premises) = ap (λ n. 1 + n) (nodes-read_trees names kinds rule 0 premises)

  nodes-read_trees : (names : ℕ) (kinds : List Kind) (rule : Rule) (index : ℕ) (trees : NodeTrees)
      → nodes_of (read_trees names kinds rule index trees) ≡ sizes_of trees
  nodes-read_trees names kinds rule index NoTree = refl
  nodes-read_trees names kinds rule index (Tree tree rest) =
      ap (λ n. n + nodes_of (read_trees names kinds rule (suc index) rest)) (nodes-read_tree names (under_binder (binder_at rule index) kinds) tree)
      ∙ ap (λ n. size_of tree + n) (nodes-read_trees names kinds rule (suc index) rest)

mutual
  -- so many nodes are listed
  pub length-listed : (before : ℕ) (tree : NodeTree) → length (listed before tree) ≡ size_of tree
  length-listed before (Grown rule first claim premises) =
      length-append (listed_all before premises) _ ∙ omega (arith, length-listed_all before premises)

  length-listed_all : (before : ℕ) (trees : NodeTrees) → length (listed_all before trees) ≡ sizes_of trees
  length-listed_all before NoTree = refl
  length-listed_all before (Tree tree rest) =
      length-append (listed before tree) (listed_all (before + size_of tree) rest)
      ∙ omega (arith, length-listed before tree, length-listed_all (before + size_of tree) rest)
