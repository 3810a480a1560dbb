-- The nodes of a certificate are those of a tree.
use Rattle.std.proofs.Common.{◌≡◌, ℕ, zero, suc, ◌+◌, ◌-◌, ◌≤◌, ◌<◌, List, [], ◌∷◌, ◌++◌, length, take, map, refl, ap, sym, ◌∙◌, subst, arith}
use Rattle.std.proofs.lemmas.List.{append-nil, append_assoc, length-append}
use Rattle.std.proofs.Math.Seq.{take-append_seam}
use Rattle.cc_certificate_text.specs.Certificates.{CertificateNode, Concludes, Proving, used_up, AllFit, IsWhole, behind_lines}
use Rattle.cc_certificate_judging.specs.Judging.{NodeTree, Grown, NodeTrees, NoTree, Tree, size_of, sizes_of, root_numbers, listed, listed_all}
use Rattle.cc_certificate_judging.proofs.PassesOnce.{first_is, rest_is}

-- trees behind others
abbrev pub join : NodeTrees → NodeTrees → NodeTrees
join NoTree others = others
join (Tree tree rest) others = Tree tree (join rest others)

sizes_of-join : (front others : NodeTrees) → sizes_of (join front others) ≡ sizes_of front + sizes_of others
sizes_of-join NoTree others = omega arith
sizes_of-join (Tree tree rest) others = omega (arith, sizes_of-join rest others)

root_numbers-join : (before : ℕ) (front others : NodeTrees)
    → root_numbers before (join front others) ≡ root_numbers before front ++ root_numbers (before + sizes_of front) others
root_numbers-join before NoTree others = let e : before ≡ before + 0 = omega arith in ap (λ b. root_numbers b others) e
root_numbers-join before (Tree tree rest) others =
    let e : (before + size_of tree) + sizes_of rest ≡ before + (size_of tree + sizes_of rest) = omega arith in
    ap (λ l. (before + size_of tree) ∷ l) (root_numbers-join (before + size_of tree) rest others
    ∙ ap (λ b. root_numbers (before + size_of tree) rest ++ root_numbers b others) e)

listed_all-join : (before : ℕ) (front others : NodeTrees)
    → listed_all before (join front others) ≡ listed_all before front ++ listed_all (before + sizes_of front) others
listed_all-join before NoTree others = let e : before ≡ before + 0 = omega arith in ap (λ b. listed_all b others) e
listed_all-join before (Tree tree rest) others =
    let e : (before + size_of tree) + sizes_of rest ≡ before + (size_of tree + sizes_of rest) = omega arith in
    ap (λ l. listed before tree ++ l) (listed_all-join (before + size_of tree) rest others
    ∙ ap (λ b. listed_all (before + size_of tree) rest ++ listed_all b others) e)
    ∙ sym (append_assoc (listed before tree) (listed_all (before + size_of tree) rest) (listed_all (before + (size_of tree + sizes_of rest)) others))

-- trees whose last nodes have the numbers of two lists are those of the one and those of the other
pub record Parts (before : ℕ) (trees : NodeTrees) (kept premises : List ℕ) : Type 0 where
  pub front : NodeTrees
  pub above : NodeTrees
  pub joined : trees ≡ join front above
  pub fronts : root_numbers before front ≡ kept
  pub aboves : root_numbers (before + sizes_of front) above ≡ premises

no_cons : {A B : Type 0} {y : A} {ys : List A} → [] ≡ y ∷ ys → B
no_cons e = cc

parts : (kept premises : List ℕ) (before : ℕ) (trees : NodeTrees) → root_numbers before trees ≡ kept ++ premises → Parts before trees kept premises
parts [] premises before trees e =
    let z : before + 0 ≡ before = omega arith in
    record { front = NoTree; above = trees; joined = refl; fronts = refl; aboves = ap (λ b. root_numbers b trees) z ∙ e }
parts (k ∷ ks) premises before NoTree e = no_cons e
parts (k ∷ ks) premises before (Tree tree rest) e =
    let p = parts ks premises (before + size_of tree) rest (rest_is e) in
    let s : before + (size_of tree + sizes_of p.front) ≡ (before + size_of tree) + sizes_of p.front = omega arith in
    record {
      front = Tree tree p.front;
      above = p.above;
      joined = ap (Tree tree) p.joined;
      fronts = ap (λ n. n ∷ root_numbers (before + size_of tree) p.front) (first_is e) ∙ ap (λ l. k ∷ l) p.fronts;
      aboves = ap (λ b. root_numbers b p.above) s ∙ p.aboves;
    }

-- what a node uses of those that are unused
used_up-parts : (kept : List ℕ) (node : CertificateNode) (number : ℕ) → used_up (kept ++ node.premises) node number ≡ kept ++ number ∷ []
used_up-parts kept node number =
    let e : length (kept ++ node.premises) - length node.premises ≡ length kept = omega (arith, length-append kept node.premises) in
    ap (λ n. take n (kept ++ node.premises) ++ number ∷ []) e
    ∙ ap (λ l. l ++ number ∷ []) (take-append_seam kept node.premises)

-- where lines come from trees, and that they list the nodes
pub record Grows (names : List (List ℕ)) (count : ℕ) (unused : List ℕ) (trees : NodeTrees) (nodes : List CertificateNode) : Type 0 where
  pub all : NodeTrees
  pub lists : listed_all 0 all ≡ listed_all 0 trees ++ nodes
  pub stage : behind_lines (Proving names count unused) (map Concludes nodes) ≡ Proving names (sizes_of all) (root_numbers 0 all)

grows : (names : List (List ℕ)) (nodes : List CertificateNode) (count : ℕ) (unused : List ℕ) (trees : NodeTrees)
    → count ≡ sizes_of trees → unused ≡ root_numbers 0 trees
    → AllFit (Proving names count unused) (map Concludes nodes) → Grows names count unused trees nodes
grows names [] count unused trees c u fit =
    record { all = trees; lists = sym (append-nil (listed_all 0 trees)); stage = ap (λ n. Proving names n unused) c ∙ ap (Proving names (sizes_of trees)) u }
grows names (node ∷ nodes) count unused trees c u fit =
    let next = fit.0 in
    let p = parts next.kept node.premises 0 trees (sym u ∙ next.premises) in
    let own = Grown node.rule node.first node.claim p.above in
    let more = join p.front (Tree own NoTree) in
    let all : sizes_of trees ≡ sizes_of p.front + sizes_of p.above = ap sizes_of p.joined ∙ sizes_of-join p.front p.above in
    let z : 0 + sizes_of p.front ≡ sizes_of p.front = omega arith in
    let counted : suc count ≡ sizes_of more = omega (arith, sizes_of-join p.front (Tree own NoTree), c, all) in
    let number : (0 + sizes_of p.front) + size_of own ≡ suc count = omega (arith, c, all) in
    let left : used_up unused node (suc count) ≡ root_numbers 0 more =
    ap (λ l. used_up l node (suc count)) next.premises ∙ used_up-parts next.kept node (suc count)
    ∙ ap (λ n. next.kept ++ n ∷ []) (sym number)
    ∙ ap (λ l. l ++ ((0 + sizes_of p.front) + size_of own) ∷ []) (sym p.fronts)
    ∙ sym (root_numbers-join 0 p.front (Tree own NoTree)) in
    let written : CertificateNode = record { rule = node.rule; premises = root_numbers (0 + sizes_of p.front) p.above; first = node.first; claim = node.claim } in
    let same : written ≡ node = ap (λ (l : List ℕ). let n : CertificateNode = record { rule = node.rule; premises = l; first = node.first; claim = node.claim } in n) p.aboves in
    let listed_more : listed_all 0 more ≡ listed_all 0 trees ++ node ∷ [] =
    listed_all-join 0 p.front (Tree own NoTree)
    ∙ ap (λ l. listed_all 0 p.front ++ l) (append-nil (listed_all (0 + sizes_of p.front) p.above ++ written ∷ []))
    ∙ ap (λ n. listed_all 0 p.front ++ (listed_all (0 + sizes_of p.front) p.above ++ n ∷ [])) same
    ∙ sym (append_assoc (listed_all 0 p.front) (listed_all (0 + sizes_of p.front) p.above) (node ∷ []))
    ∙ ap (λ l. l ++ node ∷ []) (sym (listed_all-join 0 p.front p.above) ∙ ap (listed_all 0) (sym p.joined)) in
    let rest = grows names nodes (suc count) (used_up unused node (suc count)) more counted left fit.1 in
    record {
      all = rest.all;
      lists = rest.lists ∙ ap (λ l. l ++ nodes) listed_more ∙ append_assoc (listed_all 0 trees) (node ∷ []) nodes;
      stage = rest.stage;
    }

not_one : {B : Type 0} (n : ℕ) → suc (suc n) ≡ 1 → B
not_one n e = absurd (omega (arith, e))

not_none : {B : Type 0} → zero ≡ 1 → B
not_none e = absurd (omega (arith, e))

alone : (trees : NodeTrees) (nodes : List CertificateNode) → length (root_numbers 0 trees) ≡ 1 → listed_all 0 trees ≡ nodes
    → (tree : NodeTree) × (listed 0 tree ≡ nodes)
alone NoTree nodes one e = not_none one
alone (Tree tree NoTree) nodes one e = (tree, sym (append-nil (listed 0 tree)) ∙ e)
alone (Tree tree (Tree other rest)) nodes one e = not_one _ one

-- the nodes of a certificate are those of one tree
pub certificate_tree : (names : List (List ℕ)) (nodes : List CertificateNode)
    → AllFit (Proving names 0 []) (map Concludes nodes)
    → IsWhole (behind_lines (Proving names 0 []) (map Concludes nodes))
    → (tree : NodeTree) × (listed 0 tree ≡ nodes)
certificate_tree names nodes fit whole =
    let g = grows names nodes 0 [] NoTree refl refl fit in
    alone g.all nodes (subst IsWhole g.stage whole) g.lists

-- there are not too many
pub few_nodes : (names : List (List ℕ)) (nodes : List CertificateNode) (count : ℕ) (unused : List ℕ) → count ≤ 100000
    → AllFit (Proving names count unused) (map Concludes nodes) → count + length nodes ≤ 100000
few_nodes names [] count unused low fit = omega arith
few_nodes names (node ∷ nodes) count unused low fit =
    let few : count < 100000 = fit.0.few in
    let rest : suc count + length nodes ≤ 100000 = few_nodes names nodes (suc count) (used_up unused node (suc count)) (omega arith) fit.1 in
    omega arith
