-- The text of the module that is run, as its pieces follow each other.
use Rattle.std.proofs.Common.{◌≡◌, ℕ, List, ◌∷◌, [], ◌++◌, codes, append_assoc, sym, ap, ◌∙◌}
use Rattle.std.specs.Fmt.{decimal}
use Rattle.cc_workload.specs.Workloads.{entry_module}

entry_pieces : (n : ℕ)
    → (((codes "import m" ++ decimal n) ++ (codes ".f" ++ decimal n)) ++ (10 ∷ codes "def main = fun (u: Unit) => f" ++ decimal n))
    ++ (codes "(0)" ++ 10 ∷ []) ≡ entry_module n
entry_pieces n =
    let d = decimal n in
    let named = codes ".f" ++ d in
    let tail = 10 ∷ codes "def main = fun (u: Unit) => f" ++ d in
    let ends = codes "(0)" ++ 10 ∷ [] in
    let rest = 10 ∷ codes "def main = fun (u: Unit) => f" ++ ((d ++ codes "(0)") ++ 10 ∷ []) in
    ap (λ xs. codes "import m" ++ xs)
    (append_assoc (d ++ named) tail ends ∙ (append_assoc d named (tail ++ ends)
    ∙ (ap (λ xs. d ++ (codes ".f" ++ (d ++ (10 ∷ codes "def main = fun (u: Unit) => f" ++ xs)))) (sym (append_assoc d (codes "(0)") (10 ∷ [])))
    ∙ (sym (append_assoc d (codes ".") (codes "f" ++ d ++ rest)) ∙ sym (append_assoc (d ++ codes ".") (codes "f" ++ d) rest)))))

pub entry_joined : (n : ℕ) (a b c d e : List ℕ) → a ≡ [] → b ≡ a ++ (codes "import m" ++ decimal n) → c ≡ b ++ (codes ".f" ++ decimal n)
    → d ≡ c ++ (10 ∷ codes "def main = fun (u: Unit) => f" ++ decimal n) → e ≡ d ++ (codes "(0)" ++ 10 ∷ []) → e ≡ entry_module n
entry_joined n a b c d e ha hb hc hd he =
    he ∙ (ap (λ xs. xs ++ (codes "(0)" ++ 10 ∷ []))
    (hd ∙ ap (λ xs. xs ++ (10 ∷ codes "def main = fun (u: Unit) => f" ++ decimal n))
    (hc ∙ ap (λ xs. xs ++ (codes ".f" ++ decimal n))
    (hb ∙ ap (λ xs. xs ++ (codes "import m" ++ decimal n)) ha))) ∙ entry_pieces n)
