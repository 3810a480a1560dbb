-- The names of a workload are names.
use Rattle.std.proofs.Common.{◌≡◌, ℕ, zero, suc, ◌+◌, ◌-◌, ◌^◌, ◌<◌, ◌≤◌, true, ◌==◌, ◌||◌, List, [], ◌∷◌, ◌++◌, map, codes, refl, sym, ap, ◌∙◌, subst, arith}
use Rattle.std.specs.List.{list_all, range_with_len}
use Rattle.std.specs.Char.{is_ascii_digit, is_ascii_alphanumeric}
use Rattle.std.specs.Fmt.{decimal, digits}
use Rattle.std.specs.Str.{chars, IsAscii}
use Rattle.std.proofs.lemmas.Fmt.{IsAscii-decimal, digits_decimal}
use Rattle.std.proofs.lemmas.Str.{chars-IsAscii}
use Rattle.std.proofs.lemmas.Bool.Decides.{nat_tests}
use Rattle.std.proofs.lemmas.List.FromFn.{map-range_with_len_more}
use Rattle.unicode_ident.specs.Ident.{is_xid_continue}
use Rattle.unicode_ident.proofs.IdentLemmas.{is_xid_continue-ascii}
use Rattle.unicode_ident.proofs.Computing.{unicode_ident}
use Rattle.cc_base.specs.Names.{IsName, is_reserved, reserved_words}
use Rattle.cc_words.proofs.Steps.{both}
use Rattle.cc_words.proofs.Numbers.{digits_model}
use Rattle.cc_job.specs.declared.job.Command.TheVariants.{Put}
use Rattle.cc_workload.specs.Workloads.{module_name, printing_module, link, chain}

-- a digit may continue a name
digit_continues : (d : ℕ) → is_ascii_digit d ≡ true → is_xid_continue d ≡ true
digit_continues d digit =
    let low : d < 128 = grind (arith, nat_tests) in
    let letter : (is_ascii_alphanumeric d || (d == 95)) ≡ true = grind (arith, nat_tests) in
    is_xid_continue-ascii d low ∙ letter

digits_continue : (ds : List ℕ) → list_all is_ascii_digit ds ≡ true → list_all is_xid_continue ds ≡ true
digits_continue [] h = refl
digits_continue (d ∷ ds) h =
    let each = both (is_ascii_digit d) (list_all is_ascii_digit ds) h in
    rw (digit_continues d each.0, digits_continue ds each.1) refl

-- the name of each module of the chain
pub module_named : (k : ℕ) → k < 2 ^ 64 → IsName (module_name k)
unfolding unicode_ident is_reserved reserved_words
module_named k small = rw (digits_continue (decimal k) (digits_decimal digits_model k small)) refl

IsAscii-module : (k : ℕ) → k < 2 ^ 64 → IsAscii (module_name k)
IsAscii-module k small zero = omega arith
IsAscii-module k small (suc i) = IsAscii-decimal k small i

-- and how it is read from its bytes
pub module_text : (k : ℕ) → k < 2 ^ 64 → chars (module_name k) ≡ module_name k
module_text k small = chars-IsAscii (module_name k) (IsAscii-module k small)

pub text_named : (k : ℕ) → k < 2 ^ 64 → IsName (chars (module_name k))
text_named k small = subst IsName (sym (module_text k small)) (module_named k small)

pub first_text : chars (codes "m1") ≡ module_name 1
unfolding digits
first_text = module_text 1 (omega arith)

pub first_named : IsName (chars (codes "m1"))
unfolding digits
first_named = text_named 1 (omega arith)

pub out_text : chars (codes "out") ≡ codes "out"
unfolding chars
out_text = refl

pub out_named : IsName (chars (codes "out"))
unfolding chars unicode_ident is_reserved reserved_words
out_named = refl

pub hits_text : chars (codes "hits") ≡ codes "hits"
unfolding chars
hits_text = refl

pub hits_named : IsName (chars (codes "hits"))
unfolding chars unicode_ident is_reserved reserved_words
hits_named = refl

pub app_text : chars (codes "app") ≡ codes "app"
unfolding chars
app_text = refl

pub app_named : IsName (chars (codes "app"))
unfolding chars unicode_ident is_reserved reserved_words
app_named = refl

pub main_text : chars (codes "main") ≡ codes "main"
unfolding chars
main_text = refl

pub main_named : IsName (chars (codes "main"))
unfolding chars unicode_ident is_reserved reserved_words
main_named = refl

-- one module more
pub chain_next : (k : ℕ) → 2 ≤ k → chain (k - 1) ++ link k ∷ [] ≡ chain (k + 1 - 1)
chain_next k some =
    let more = map-range_with_len_more link 2 (k - 1 - 1) k (omega arith) in
    let same : k - 1 - 1 + 1 ≡ k + 1 - 1 - 1 = omega arith in
    ap (λ xs. Put (module_name 1) printing_module ∷ xs) (sym more ∙ ap (λ n. map link (range_with_len 2 n)) same)

-- all of them
pub chain_end : (k n : ℕ) → k ≡ n + 1 → chain (k - 1) ≡ chain n
chain_end k n e = let same : k - 1 ≡ n = omega arith in ap chain same
