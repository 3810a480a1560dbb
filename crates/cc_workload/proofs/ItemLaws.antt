-- Each device and each command of a workload is one that a job may have.
use Rattle.std.proofs.Common.{◌≡◌, ℕ, zero, suc, ◌+◌, ◌-◌, ◌^◌, ◌<◌, ◌≤◌, Bool, true, false, not, ◌==◌, List, [], ◌∷◌, ◌++◌, map, length, codes, refl, sym, ap, ◌∙◌, subst, arith}
use Rattle.std.specs.List.{list_all, range_with_len, AllByRecursion, IsDistinct}
use Rattle.unicode_ident.proofs.Computing.{unicode_ident}
use Rattle.std.specs.Fmt.{decimal}
use Rattle.cc_base.specs.Names.{IsName, is_reserved, reserved_words}
use Rattle.cc_words.specs.Lines.{lines_of, AreWholeLines}
use Rattle.cc_words.proofs.Steps.{both, Lacks, Lacks-append}
use Rattle.cc_words.proofs.Splits.{AllLack}
use Rattle.cc_words.proofs.Numbers.{Lacks-decimal}
use Rattle.cc_words.proofs.LineLists.{terminated, whole-terminated, lines_of-whole}
use Rattle.cc_job.specs.declared.job.Command.{Command}
use Rattle.cc_job.specs.declared.job.Command.TheVariants.{Put}
use Rattle.cc_job.specs.Jobs.{IsCommand, IsItem, Commands, text}
use Rattle.cc_workload.specs.Workloads.{module_name, definition_name, import_line, printing_module, counting_module, calling_module, entry_module, link, requests, DevicesDiffer, WorkloadItems}
use Rattle.cc_workload.proofs.WorkloadNames.{module_named}

text-terminated : (lines : List (List ℕ)) → text lines ≡ terminated lines
text-terminated [] = refl
text-terminated (line ∷ lines) = ap (λ rest. line ++ 10 ∷ rest) (text-terminated lines)

-- what a put's text has to be
abbrev IsText : List ℕ → Type 0
IsText bytes = AreWholeLines bytes × (length (lines_of bytes) ≤ 4194304)

text_fits : (lines : List (List ℕ)) → AllLack 10 lines → length lines ≤ 4194304 → IsText (text lines)
text_fits lines lack few =
    let same = text-terminated lines in (
      subst (λ bytes. AreWholeLines bytes) (sym same) (whole-terminated lines),
      subst (λ ls. length ls ≤ 4194304) (sym (ap lines_of same ∙ lines_of-whole lines lack)) few,
    )

-- a text of one line, and one of two
one_line : (line : List ℕ) → Lacks 10 line → IsText (text (line ∷ []))
one_line line lack =
    let all : AllLack 10 (line ∷ []) = (lack, tt) in
    text_fits (line ∷ []) all (omega arith)

two_lines : (first second : List ℕ) → Lacks 10 first → Lacks 10 second → IsText (text (first ∷ second ∷ []))
two_lines first second p q =
    let all : AllLack 10 (first ∷ second ∷ []) = (p, (q, tt)) in
    text_fits (first ∷ second ∷ []) all (omega arith)

put_holds : (name bytes : List ℕ) → IsName name → IsText bytes → IsCommand (Put name bytes)
put_holds name bytes named fits = (named, fits.0, fits.1)

not_true : (t : Bool) → not t ≡ true → t ≡ false
not_true true h = cc
not_true false h = refl

-- no line feed stands in a text that is written out
plain_lacks : (cs : List ℕ) → list_all (λ b. not (b == 10)) cs ≡ true → Lacks 10 cs
plain_lacks [] h = tt
plain_lacks (b ∷ bs) h =
    let each = both (not (b == 10)) (list_all (λ b. not (b == 10)) bs) h in
    (not_true (b == 10) each.0, plain_lacks bs each.1)

module _ (k : ℕ) (small : k < 2 ^ 64) where
  module_lacks : Lacks 10 (module_name k)
  module_lacks = (refl, Lacks-decimal 10 k (omega arith) small)

  definition_lacks : Lacks 10 (definition_name k)
  definition_lacks = (refl, Lacks-decimal 10 k (omega arith) small)

  import_lacks : Lacks 10 (import_line k)
  import_lacks =
      Lacks-append 10 (codes "import " ++ module_name k ++ codes ".") (definition_name k)
      (Lacks-append 10 (codes "import " ++ module_name k) (codes ".")
      (Lacks-append 10 (codes "import ") (module_name k) (plain_lacks (codes "import ") refl) module_lacks)
      (plain_lacks (codes ".") refl))
      definition_lacks

  entry_fits : IsText (entry_module k)
  entry_fits =
      two_lines (import_line k) (codes "def main = fun (u: Unit) => " ++ definition_name k ++ codes "(0)") import_lacks
      (Lacks-append 10 (codes "def main = fun (u: Unit) => " ++ definition_name k) (codes "(0)")
      (Lacks-append 10 (codes "def main = fun (u: Unit) => ") (definition_name k)
      (plain_lacks (codes "def main = fun (u: Unit) => ") refl) definition_lacks)
      (plain_lacks (codes "(0)") refl))

-- the line that calls, with the number before
abbrev calling_line : ℕ → ℕ → List ℕ
calling_line j k = codes "def " ++ definition_name k ++ codes " = fun (x: Int) => " ++ definition_name j ++ codes "(x + " ++ decimal k ++ codes ")"

calling_lacks : (j k : ℕ) → j < 2 ^ 64 → k < 2 ^ 64 → Lacks 10 (calling_line j k)
calling_lacks j k small_j small_k =
    Lacks-append 10 (codes "def " ++ definition_name k ++ codes " = fun (x: Int) => " ++ definition_name j ++ codes "(x + " ++ decimal k) (codes ")")
    (Lacks-append 10 (codes "def " ++ definition_name k ++ codes " = fun (x: Int) => " ++ definition_name j ++ codes "(x + ") (decimal k)
    (Lacks-append 10 (codes "def " ++ definition_name k ++ codes " = fun (x: Int) => " ++ definition_name j) (codes "(x + ")
    (Lacks-append 10 (codes "def " ++ definition_name k ++ codes " = fun (x: Int) => ") (definition_name j)
    (Lacks-append 10 (codes "def " ++ definition_name k) (codes " = fun (x: Int) => ")
    (Lacks-append 10 (codes "def ") (definition_name k) (plain_lacks (codes "def ") refl) (definition_lacks k small_k))
    (plain_lacks (codes " = fun (x: Int) => ") refl))
    (definition_lacks j small_j))
    (plain_lacks (codes "(x + ") refl))
    (Lacks-decimal 10 k (omega arith) small_k))
    (plain_lacks (codes ")") refl)

calling_fits : (k : ℕ) → k < 2 ^ 64 → IsText (calling_module k)
calling_fits k small =
    let before : k - 1 < 2 ^ 64 = omega arith in
    two_lines (import_line (k - 1)) (calling_line (k - 1) k) (import_lacks (k - 1) before) (calling_lacks (k - 1) k before small)

links_hold : (a n : ℕ) → a + n ≤ 201 → AllByRecursion IsCommand (map link (range_with_len a n))
links_hold a zero h = tt
links_hold a (suc n) h =
    let small : a < 2 ^ 64 = omega arith in
    let rest : a + 1 + n ≤ 201 = omega arith in
    (put_holds (module_name a) (calling_module a) (module_named a small) (calling_fits a small), links_hold (a + 1) n rest)

items_hold : (xs ys : List Command) → AllByRecursion IsCommand xs → AllByRecursion IsCommand ys → AllByRecursion IsItem (map Commands (xs ++ ys))
items_hold [] [] p q = tt
items_hold [] (y ∷ ys) p q = (q.0, items_hold [] ys tt q.1)
items_hold (x ∷ xs) ys p q = (p.0, items_hold xs ys p.1 q)

printing_fits : IsText printing_module
printing_fits = one_line (codes "def f1 = fun (x: Int) => out.print(x)") (plain_lacks (codes "def f1 = fun (x: Int) => out.print(x)") refl)

counting_fits : IsText counting_module
counting_fits = one_line (codes "def f1 = fun (x: Int) => val n = hits.tick(); out.print(x)") (plain_lacks (codes "def f1 = fun (x: Int) => val n = hits.tick(); out.print(x)") refl)

app_named : IsName (codes "app")
unfolding unicode_ident is_reserved reserved_words
app_named = refl

main_named : IsName (codes "main")
unfolding unicode_ident is_reserved reserved_words
main_named = refl

out_named : IsName (codes "out")
unfolding unicode_ident is_reserved reserved_words
out_named = refl

hits_named : IsName (codes "hits")
unfolding unicode_ident is_reserved reserved_words
hits_named = refl

requests_hold : (n : ℕ) → n < 2 ^ 64 → AllByRecursion IsCommand (requests n)
requests_hold n small = (
  put_holds (codes "app") (entry_module n) app_named (entry_fits n small),
  (
    tt,
    (
      put_holds (module_name 1) counting_module (module_named 1 (omega arith)) counting_fits,
      (tt, (((app_named, main_named), omega arith), tt)),
    ),
  ),
)

pub workload_items : WorkloadItems
workload_items n some few =
    let small : n < 2 ^ 64 = omega arith in
    let all : 2 + (n - 1) ≤ 201 = omega arith in (
      (out_named, tt),
      (
        (hits_named, tt),
        (
          put_holds (module_name 1) printing_module (module_named 1 (omega arith)) printing_fits,
          items_hold (map link (range_with_len 2 (n - 1))) (requests n) (links_hold 2 (n - 1) all) (requests_hold n small),
        ),
      ),
    )

pub devices_differ : DevicesDiffer
unfolding IsDistinct
devices_differ = ((refl, tt), (tt, tt))
