-- What the passes find is determined.
use Rattle.std.proofs.Common.{◌≡◌, ℕ, List, [], ◌∷◌, ◌++◌, length, refl, ap, sym, ◌∙◌, subst, arith}
use Rattle.std.proofs.lemmas.List.{length-append}
use Rattle.cc_core.specs.WellFormed.{Kind}
use Rattle.cc_core.specs.Derivations.{Derivation, Node}
use Rattle.cc_certificate_text.specs.Certificates.{CertificateNode}
use Rattle.cc_certificate_judging.specs.Passes.{PlainReadNode, read_at, kinds_above, AreRead, as_premises, Builds}

-- two ways to part a list, where the last parts are as long
pub record Same {A : Type 0} (a b c d : List A) : Type 0 where
  pub fronts : a ≡ c
  pub backs : b ≡ d

pub first_is : {A : Type 0} {x y : A} {xs ys : List A} → x ∷ xs ≡ y ∷ ys → x ≡ y
first_is e = cc

pub rest_is : {A : Type 0} {x y : A} {xs ys : List A} → x ∷ xs ≡ y ∷ ys → xs ≡ ys
rest_is e = cc

pub same_parts : {A : Type 0} (a b c d : List A) → a ++ b ≡ c ++ d → length b ≡ length d → Same a b c d
same_parts [] b [] d e l = record { fronts = refl; backs = e }
same_parts [] b (y ∷ c) d e l = absurd (omega (arith, ap length e, length-append c d, l))
same_parts (x ∷ a) b [] d e l = absurd (omega (arith, ap length e, length-append a b, l))
same_parts (x ∷ a) b (y ∷ c) d e l =
    let s = same_parts a b c d (rest_is e) l in
    record { fronts = ap (λ z. z ∷ a) (first_is e) ∙ ap (λ z. y ∷ z) s.fronts; backs = s.backs }

-- two ways to take the last element
pub same_last : {A : Type 0} (a c : List A) (x y : A) → a ++ x ∷ [] ≡ c ++ y ∷ [] → Same a (x ∷ []) c (y ∷ [])
same_last a c x y e = same_parts a (x ∷ []) c (y ∷ []) e refl

pub are_read_once : (names : ℕ) (nodes : List CertificateNode) (waiting : List (List Kind)) (reads others : List PlainReadNode)
    → AreRead names waiting nodes reads → AreRead names waiting nodes others → reads ≡ others
are_read_once names [] waiting reads others r o = r.1 ∙ sym o.1
are_read_once names (node ∷ nodes) waiting reads others (front, kinds, rest, w, e, h) (front', kinds', rest', w', e', h') =
    let s = same_last front front' kinds kinds' (sym w ∙ w') in
    let k : kinds ≡ kinds' = first_is s.backs in
    let moved : AreRead names (front ++ kinds_above kinds node.rule 0 (length node.premises)) nodes rest' =
    subst (λ (f : List (List Kind)). AreRead names (f ++ kinds_above kinds node.rule 0 (length node.premises)) nodes rest') (sym s.fronts)
    (subst (λ (l : List Kind). AreRead names (front' ++ kinds_above l node.rule 0 (length node.premises)) nodes rest') (sym k) h') in
    let t : rest ≡ rest' = are_read_once names nodes (front ++ kinds_above kinds node.rule 0 (length node.premises)) rest rest' h moved in
    e ∙ ap (λ (l : List Kind). read_at names l node ∷ rest) k ∙ ap (λ l. read_at names kinds' node ∷ l) t ∙ sym e'

-- a step of the second pass, where the premises are those that were taken
pub builds_over : (front premises : List Derivation) (node : PlainReadNode) (nodes : List PlainReadNode) (root : Derivation)
    → length premises ≡ node.count → Builds (front ++ premises) (node ∷ nodes) root
    → Builds (front ++ Node node.rule (as_premises premises) node.claim ∷ []) nodes root
builds_over front premises node nodes root l (front', premises', e, l', h) =
    let s = same_parts front premises front' premises' e (l ∙ sym l') in
    subst (λ (f : List Derivation). Builds (f ++ Node node.rule (as_premises premises) node.claim ∷ []) nodes root) (sym s.fronts)
    (subst (λ (p : List Derivation). Builds (front' ++ Node node.rule (as_premises p) node.claim ∷ []) nodes root) (sym s.backs) h)

pub builds_once : (nodes : List PlainReadNode) (built : List Derivation) (root other : Derivation)
    → Builds built nodes root → Builds built nodes other → root ≡ other
builds_once [] built root other r o = first_is (sym r ∙ o)
builds_once (node ∷ nodes) built root other (front, premises, e, l, h) o =
    let moved : Builds (front ++ Node node.rule (as_premises premises) node.claim ∷ []) nodes other =
    builds_over front premises node nodes other l (subst (λ (b : List Derivation). Builds b (node ∷ nodes) other) e o) in
    builds_once nodes (front ++ Node node.rule (as_premises premises) node.claim ∷ []) root other h moved
