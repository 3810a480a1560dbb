-- The steps of the two passes.
use Rattle.std.proofs.Common.{◌≡◌, ℕ, zero, suc, ◌+◌, ◌≤◌, ◌<◌, List, [], ◌∷◌, ◌++◌, length, map, refl, ap, sym, ◌∙◌, subst, arith}
use mathlib.Core.List.{reverse}
use Rattle.std.proofs.lemmas.List.{append-nil, append_assoc, reverse-append, length-append, length-map, map_push}
use Rattle.cc_core.specs.WellFormed.{Kind}
use Rattle.cc_core.specs.Derivations.{Rule, Derivation, Node, Premises, NoPremise, Premise}
use Rattle.cc_validity.specs.Counting.{premise_list}
use Rattle.cc_certificate_text.specs.Certificates.{CertificateNode}
use Rattle.cc_certificate_judging.specs.Judging.{under_binder, binder_at}
use Rattle.cc_certificate_judging.specs.Passes.{PlainReadNode, read_at, kinds_above, AreRead, as_premises, Builds}
use Rattle.cc_certificate_judging.proofs.PassesOnce.{same_last, builds_over}

-- one place more
kinds_above-push : (kinds : List Kind) (rule : Rule) (index count : ℕ)
    → kinds_above kinds rule index (suc count) ≡ kinds_above kinds rule index count ++ under_binder (binder_at rule (index + count)) kinds ∷ []
kinds_above-push kinds rule index zero =
    let e : index ≡ index + 0 = omega arith in ap (λ i. under_binder (binder_at rule i) kinds ∷ []) e
kinds_above-push kinds rule index (suc count) =
    let e : suc index + count ≡ index + suc count = omega arith in
    ap (λ l. under_binder (binder_at rule index) kinds ∷ l) (kinds_above-push kinds rule (suc index) count
    ∙ ap (λ i. kinds_above kinds rule (suc index) count ++ under_binder (binder_at rule i) kinds ∷ []) e)

pub waits_more : {A : Type 0} (f : A → List Kind) (old now items : List A) (x : A) (kinds : List Kind) (rule : Rule) (index : ℕ)
    → map f now ≡ map f old ++ kinds_above kinds rule 0 index → items ≡ now ++ x ∷ []
    → f x ≡ under_binder (binder_at rule index) kinds
    → map f items ≡ map f old ++ kinds_above kinds rule 0 (index + 1)
waits_more f old now items x kinds rule index was is own =
    let e : suc index ≡ index + 1 = omega arith in
    let z : 0 + index ≡ index = omega arith in
    let pushed : kinds_above kinds rule 0 (index + 1) ≡ kinds_above kinds rule 0 index ++ under_binder (binder_at rule index) kinds ∷ [] =
    ap (kinds_above kinds rule 0) (sym e) ∙ kinds_above-push kinds rule 0 index
    ∙ ap (λ i. kinds_above kinds rule 0 index ++ under_binder (binder_at rule i) kinds ∷ []) z in
    ap (map f) is ∙ map_push f now x ∙ ap (λ l. l ++ f x ∷ []) was
    ∙ append_assoc (map f old) (kinds_above kinds rule 0 index) (f x ∷ [])
    ∙ ap (λ k. map f old ++ (kinds_above kinds rule 0 index ++ k ∷ [])) own
    ∙ ap (λ l. map f old ++ l) (sym pushed)

-- the last element of a list that is gone over the other way round
reverse_map-push : {A B : Type 0} (f : A → B) (front : List A) (x : A) → reverse (map f (front ++ x ∷ [])) ≡ f x ∷ reverse (map f front)
reverse_map-push f front x = ap reverse (map_push f front x) ∙ reverse-append (map f front) (f x ∷ [])

-- what was read and what is left, in the first pass
pub record Standing (names : ℕ) (start : List (List Kind)) (all : List CertificateNode) (reads : List PlainReadNode) (waiting : List (List Kind)) (nodes : List CertificateNode) : Type 0 where
  pub others : List PlainReadNode
  pub whole : AreRead names start all (reads ++ others)
  pub left : AreRead names waiting nodes others

not_empty : {A : Type 0} (front : List A) (x : A) → [] ≡ front ++ x ∷ [] → ⊥
not_empty front x e = omega (arith, ap length e, length-append front (x ∷ []))

no_length : {A : Type 0} (l : List A) → length l ≡ 0 → l ≡ []
no_length [] e = refl
no_length (x ∷ l) e = absurd (omega (arith, e))

pub some_waits : {N K : Type 0} (f : N → CertificateNode) (k : K → List Kind) (names : ℕ) (start : List (List Kind)) (all : List CertificateNode) (reads : List PlainReadNode)
    (rest front : List N) (node : N) (waiting : List K)
    → rest ≡ front ++ node ∷ [] → length waiting ≡ 0
    → Standing names start all reads (map k waiting) (reverse (map f rest)) → ⊥
some_waits f k names start all reads rest front node waiting is none s =
    let h : AreRead names [] (f node ∷ reverse (map f front)) s.others =
    subst (λ (w : List (List Kind)). AreRead names w (f node ∷ reverse (map f front)) s.others) (ap (map k) (no_length waiting none))
    (subst (λ (l : List CertificateNode). AreRead names (map k waiting) l s.others) (ap (λ l. reverse (map f l)) is ∙ reverse_map-push f front node) s.left) in
    not_empty h.0 h.1 h.3

key_of : {A : Type 0} {x y : A} → x ∷ [] ≡ y ∷ [] → x ≡ y
key_of e = cc

pub read_step : {N R K : Type 0} (f : N → CertificateNode) (r : R → PlainReadNode) (k : K → List Kind) (names : ℕ) (start : List (List Kind)) (all : List CertificateNode)
    (rest front : List N) (node : N) (waiting popped after : List K) (place : K) (reads more : List R) (read : R)
    → rest ≡ front ++ node ∷ [] → waiting ≡ popped ++ place ∷ [] → more ≡ reads ++ read ∷ []
    → r read ≡ read_at names (k place) (f node)
    → map k after ≡ map k popped ++ kinds_above (k place) (f node).rule 0 (length (f node).premises)
    → Standing names start all (map r reads) (map k waiting) (reverse (map f rest))
    → Standing names start all (map r more) (map k after) (reverse (map f front))
read_step f r k names start all rest front node waiting popped after place reads more read is wait push own next s =
    let moved : AreRead names (map k popped ++ k place ∷ []) (f node ∷ reverse (map f front)) s.others =
    subst (λ (w : List (List Kind)). AreRead names w (f node ∷ reverse (map f front)) s.others) (ap (map k) wait ∙ map_push k popped place)
    (subst (λ (l : List CertificateNode). AreRead names (map k waiting) l s.others) (ap (λ l. reverse (map f l)) is ∙ reverse_map-push f front node) s.left) in
    let same = same_last (map k popped) moved.0 (k place) moved.1 moved.3 in
    let kinds : k place ≡ moved.1 = key_of same.backs in
    let above : map k after ≡ moved.0 ++ kinds_above moved.1 (f node).rule 0 (length (f node).premises) =
    next ∙ ap (λ w. w ++ kinds_above (k place) (f node).rule 0 (length (f node).premises)) same.fronts
    ∙ ap (λ (l : List Kind). moved.0 ++ kinds_above l (f node).rule 0 (length (f node).premises)) kinds in
    let head : s.others ≡ r read ∷ moved.2 =
    moved.4 ∙ ap (λ (l : List Kind). read_at names l (f node) ∷ moved.2) (sym kinds) ∙ ap (λ x. x ∷ moved.2) (sym own) in
    let reading : map r reads ++ s.others ≡ map r more ++ moved.2 =
    ap (λ l. map r reads ++ l) head ∙ sym (append_assoc (map r reads) (r read ∷ []) moved.2)
    ∙ ap (λ l. l ++ moved.2) (sym (map_push r reads read) ∙ ap (map r) (sym push)) in
    record {
      others = moved.2;
      whole = subst (λ (l : List PlainReadNode). AreRead names start all l) reading s.whole;
      left = subst (λ (w : List (List Kind)). AreRead names w (reverse (map f front)) moved.2) (sym above) moved.5;
    }

pub read_start : {N R K : Type 0} (f : N → CertificateNode) (r : R → PlainReadNode) (k : K → List Kind) (names : ℕ) (start : List Kind) (rest nodes : List N) (waiting : List K) (place : K) (reads : List R)
    → rest ≡ nodes → waiting ≡ [] ++ place ∷ [] → k place ≡ start → reads ≡ []
    → (others : List PlainReadNode) × AreRead names (start ∷ []) (reverse (map f nodes)) others
    → Standing names (start ∷ []) (reverse (map f nodes)) (map r reads) (map k waiting) (reverse (map f rest))
read_start {N = N} {R = R} f r k names start rest nodes waiting place reads is wait own none s =
    let w : start ∷ [] ≡ map k waiting = sym (ap (map k) wait ∙ ap (λ l. l ∷ []) own) in
    record {
      others = s.0;
      whole = subst (λ (l : List R). AreRead names (start ∷ []) (reverse (map f nodes)) (map r l ++ s.0)) (sym none) s.1;
      left = subst (λ (l : List N). AreRead names (map k waiting) (reverse (map f l)) s.0) (sym is)
          (subst (λ (v : List (List Kind)). AreRead names v (reverse (map f nodes)) s.0) w s.1);
    }

pub read_all : {N R K : Type 0} (f : N → CertificateNode) (r : R → PlainReadNode) (k : K → List Kind) (names : ℕ) (start : List (List Kind)) (all : List CertificateNode) (rest : List N) (waiting : List K) (reads : List R)
    → length rest ≡ 0 → Standing names start all (map r reads) (map k waiting) (reverse (map f rest))
    → AreRead names start all (map r reads)
read_all {N = N} f r k names start all rest waiting reads none s =
    let h : AreRead names (map k waiting) [] s.others =
    subst (λ (l : List N). AreRead names (map k waiting) (reverse (map f l)) s.others) (no_length rest none) s.left in
    subst (λ (l : List PlainReadNode). AreRead names start all l) (ap (λ l. map r reads ++ l) h.1 ∙ append-nil (map r reads)) s.whole

-- what was built and what is left, in the second pass
pub record Building (all : List PlainReadNode) (built : List Derivation) (left : List PlainReadNode) : Type 0 where
  pub root : Derivation
  pub rest : Builds built left root
  pub whole : Builds [] all root

as_premises-list : (premises : Premises) → as_premises (premise_list premises) ≡ premises
as_premises-list NoPremise = refl
as_premises-list (Premise first rest) = ap (Premise first) (as_premises-list rest)

pub enough_built : {D R : Type 0} (f : D → Derivation) (r : R → PlainReadNode) (all : List PlainReadNode) (built : List D) (left front : List R) (node : R)
    → left ≡ front ++ node ∷ [] → Building all (map f built) (reverse (map r left)) → (r node).count ≤ length built
enough_built f r all built left front node is b =
    let h : Builds (map f built) (r node ∷ reverse (map r front)) b.root =
    subst (λ (l : List PlainReadNode). Builds (map f built) l b.root) (ap (λ l. reverse (map r l)) is ∙ reverse_map-push r front node) b.rest in
    let parts = h.2 in
    let count = h.3 in
    omega (arith, ap length parts, length-append h.0 h.1, count, length-map built f)

pub build_step : {D R : Type 0} (f : D → Derivation) (r : R → PlainReadNode) (all : List PlainReadNode) (built rest more : List D) (left front : List R) (node : R) (premises : Premises) (d : D)
    → left ≡ front ++ node ∷ [] → map f built ≡ map f rest ++ premise_list premises
    → length (premise_list premises) ≡ (r node).count → more ≡ rest ++ d ∷ []
    → f d ≡ Node (r node).rule premises (r node).claim
    → Building all (map f built) (reverse (map r left)) → Building all (map f more) (reverse (map r front))
build_step f r all built rest more left front node premises d is taken count push own b =
    let h : Builds (map f rest ++ premise_list premises) (r node ∷ reverse (map r front)) b.root =
    subst (λ (w : List Derivation). Builds w (r node ∷ reverse (map r front)) b.root) taken
    (subst (λ (l : List PlainReadNode). Builds (map f built) l b.root) (ap (λ l. reverse (map r l)) is ∙ reverse_map-push r front node) b.rest) in
    let next = builds_over (map f rest) (premise_list premises) (r node) (reverse (map r front)) b.root count h in
    let e : map f rest ++ Node (r node).rule (as_premises (premise_list premises)) (r node).claim ∷ [] ≡ map f more =
    ap (λ (p : Premises). map f rest ++ Node (r node).rule p (r node).claim ∷ []) (as_premises-list premises)
    ∙ ap (λ x. map f rest ++ x ∷ []) (sym own) ∙ sym (map_push f rest d) ∙ ap (map f) (sym push) in
    record { root = b.root; rest = subst (λ (w : List Derivation). Builds w (reverse (map r front)) b.root) e next; whole = b.whole }

pub build_start : {D R : Type 0} (f : D → Derivation) (r : R → PlainReadNode) (reads : List R) (built : List D)
    → built ≡ [] → (root : Derivation) × Builds [] (reverse (map r reads)) root
    → Building (reverse (map r reads)) (map f built) (reverse (map r reads))
build_start {D = D} f r reads built none s =
    record { root = s.0; rest = subst (λ (w : List D). Builds (map f w) (reverse (map r reads)) s.0) (sym none) s.1; whole = s.1 }

at_end : {D R : Type 0} (f : D → Derivation) (r : R → PlainReadNode) (all : List PlainReadNode) (built : List D) (left : List R)
    → length left ≡ 0 → (b : Building all (map f built) (reverse (map r left))) → map f built ≡ b.root ∷ []
at_end {R = R} f r all built left none b =
    let e = no_length left none in
    let h : Builds (map f built) [] b.root = subst (λ (l : List R). Builds (map f built) (reverse (map r l)) b.root) e b.rest in h

pub some_built : {D R : Type 0} (f : D → Derivation) (r : R → PlainReadNode) (all : List PlainReadNode) (built : List D) (left : List R)
    → length left ≡ 0 → length built ≡ 0 → Building all (map f built) (reverse (map r left)) → ⊥
some_built f r all built left none empty b =
    let e = at_end f r all built left none b in omega (arith, ap length e, length-map built f, empty)

pub root_built : {D R : Type 0} (f : D → Derivation) (r : R → PlainReadNode) (all : List PlainReadNode) (built front : List D) (d : D) (left : List R)
    → length left ≡ 0 → built ≡ front ++ d ∷ [] → Building all (map f built) (reverse (map r left)) → Builds [] all (f d)
root_built f r all built front d left none is b =
    let e = at_end f r all built left none b in
    let same = same_last (map f front) [] (f d) b.root (sym (map_push f front d) ∙ ap (map f) (sym is) ∙ e) in
    subst (λ (x : Derivation). Builds [] all x) (sym (key_of same.backs)) b.whole

-- premises that are taken one by one
pub none_short : {D : Type 0} (f : D → Derivation) (all built : List D) (premises : List Derivation) (counter count : ℕ)
    → length built ≡ 0 → map f all ≡ map f built ++ premises → length premises ≡ counter → counter < count → count ≤ length all → ⊥
none_short f all built premises counter count none taken counted low enough =
    omega (arith, ap length taken, length-append (map f built) premises, length-map all f, length-map built f, none, counted, low, enough)

pub taken_more : {D : Type 0} (f : D → Derivation) (all built front : List D) (x : D) (premises others : List Derivation)
    → map f all ≡ map f built ++ premises → built ≡ front ++ x ∷ [] → others ≡ premises → map f all ≡ map f front ++ (f x ∷ others)
taken_more f all built front x premises others taken is same =
    taken ∙ ap (λ l. map f l ++ premises) is ∙ ap (λ l. l ++ premises) (map_push f front x)
    ∙ append_assoc (map f front) (f x ∷ []) premises ∙ ap (λ l. map f front ++ (f x ∷ l)) (sym same)
