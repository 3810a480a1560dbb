-- Nodes are those of one tree at most.
use Rattle.std.proofs.Common.{◌≡◌, ℕ, suc, ◌+◌, List, [], ◌∷◌, ◌++◌, length, refl, ap, sym, ◌∙◌, subst}
use Rattle.std.proofs.lemmas.List.{append-nil, append_assoc}
use Rattle.cc_certificate_text.specs.Certificates.{CertificateNode}
use Rattle.cc_certificate_judging.specs.Judging.{NodeTree, Grown, NodeTrees, NoTree, Tree, size_of, root_numbers, listed, listed_all}
use Rattle.cc_certificate_judging.proofs.PassesOnce.{same_parts, first_is}

as_trees : List NodeTree → NodeTrees
as_trees [] = NoTree
as_trees (tree ∷ rest) = Tree tree (as_trees rest)

abbrev list_of : NodeTrees → List NodeTree
list_of NoTree = []
list_of (Tree tree rest) = tree ∷ list_of rest

as_trees-list : (trees : NodeTrees) → as_trees (list_of trees) ≡ trees
unfolding as_trees
as_trees-list NoTree = refl
as_trees-list (Tree tree rest) = ap (Tree tree) (as_trees-list rest)

length-list : (before : ℕ) (trees : NodeTrees) → length (list_of trees) ≡ length (root_numbers before trees)
length-list before NoTree = refl
length-list before (Tree tree rest) = ap suc (length-list (before + size_of tree) rest)

-- the nodes, in order, grow one tree over those that are grown and are a premise of no other yet
abbrev GrowTo : List NodeTree → List CertificateNode → NodeTree → Type 0
GrowTo grown [] root = grown ≡ root ∷ []
GrowTo grown (node ∷ nodes) root =
    (front : List NodeTree) × (above : List NodeTree) × (grown ≡ front ++ above) × (length above ≡ length node.premises)
    × GrowTo (front ++ Grown node.rule node.first node.claim (as_trees above) ∷ []) nodes root

mutual
  tree_grows : (before : ℕ) (tree : NodeTree) (grown : List NodeTree) (rest : List CertificateNode) (root : NodeTree)
      → GrowTo (grown ++ tree ∷ []) rest root → GrowTo grown (listed before tree ++ rest) root
  tree_grows before (Grown rule first claim premises) grown rest root h =
      let node : CertificateNode = record { rule = rule; premises = root_numbers before premises; first = first; claim = claim } in
      let over : GrowTo (grown ++ Grown rule first claim (as_trees (list_of premises)) ∷ []) rest root =
      subst (λ (p : NodeTrees). GrowTo (grown ++ Grown rule first claim p ∷ []) rest root) (sym (as_trees-list premises)) h in
      subst (λ (l : List CertificateNode). GrowTo grown l root) (sym (append_assoc (listed_all before premises) (node ∷ []) rest))
      (trees_grow before premises grown (node ∷ rest) root (grown, list_of premises, refl, length-list before premises, over))

  trees_grow : (before : ℕ) (trees : NodeTrees) (grown : List NodeTree) (rest : List CertificateNode) (root : NodeTree)
      → GrowTo (grown ++ list_of trees) rest root → GrowTo grown (listed_all before trees ++ rest) root
  trees_grow before NoTree grown rest root h = subst (λ (g : List NodeTree). GrowTo g rest root) (append-nil grown) h
  trees_grow before (Tree tree others) grown rest root h =
      let shifted : GrowTo ((grown ++ tree ∷ []) ++ list_of others) rest root =
      subst (λ (g : List NodeTree). GrowTo g rest root) (sym (append_assoc grown (tree ∷ []) (list_of others))) h in
      subst (λ (l : List CertificateNode). GrowTo grown l root)
      (sym (append_assoc (listed before tree) (listed_all (before + size_of tree) others) rest))
      (tree_grows before tree grown (listed_all (before + size_of tree) others ++ rest) root
      (trees_grow (before + size_of tree) others (grown ++ tree ∷ []) rest root shifted))

grows_once : (nodes : List CertificateNode) (grown : List NodeTree) (root other : NodeTree)
    → GrowTo grown nodes root → GrowTo grown nodes other → root ≡ other
grows_once [] grown root other r o = first_is (sym r ∙ o)
grows_once (node ∷ nodes) grown root other (front, above, e, l, h) (front', above', e', l', h') =
    let s = same_parts front above front' above' (sym e ∙ e') (l ∙ sym l') in
    let moved : GrowTo (front ++ Grown node.rule node.first node.claim (as_trees above) ∷ []) nodes other =
    subst (λ (f : List NodeTree). GrowTo (f ++ Grown node.rule node.first node.claim (as_trees above) ∷ []) nodes other) (sym s.fronts)
    (subst (λ (a : List NodeTree). GrowTo (front' ++ Grown node.rule node.first node.claim (as_trees a) ∷ []) nodes other) (sym s.backs) h') in
    grows_once nodes (front ++ Grown node.rule node.first node.claim (as_trees above) ∷ []) root other h moved

grows_itself : (tree : NodeTree) → GrowTo [] (listed 0 tree) tree
grows_itself tree = subst (λ (l : List CertificateNode). GrowTo [] l tree) (append-nil (listed 0 tree)) (tree_grows 0 tree [] [] tree refl)

pub one_tree : (tree other : NodeTree) → listed 0 tree ≡ listed 0 other → tree ≡ other
one_tree tree other e =
    grows_once (listed 0 other) [] tree other (subst (λ (l : List CertificateNode). GrowTo [] l tree) e (grows_itself tree)) (grows_itself other)
