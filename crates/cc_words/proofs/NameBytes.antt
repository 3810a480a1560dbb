-- The text of a name is UTF-8, and no ASCII character that may not continue a name stands in it.
use Rattle.std.proofs.Common.{◌≡◌, ℕ, ◌/◌, ◌<◌, ◌≤◌, Bool, true, false, not, ◌&&◌, ◌||◌, ◌==◌, cond, ltb, List, [], Some, ◌∷◌, refl, sym, ap, subst, ◌∙◌, arith, ⊎_elim}
use Rattle.std.specs.Prelude.{encode_utf8_all}
use Rattle.std.specs.List.{list_all}
use Rattle.std.specs.Char.{is_ascii_alphanumeric}
use Rattle.std.proofs.lemmas.Str.{encode_ascii, chars-encodes}
use Rattle.std.proofs.lemmas.Bool.{cases_lt}
use Rattle.std.proofs.lemmas.Bool.Decides.{nat_tests, Decides-eqb, Decides-ltb}
use Rattle.ucd_table.specs.Steps.{Step, step_value}
use Rattle.ucd_table.proofs.Stepped.{Stepped, zip_stepped}
use Rattle.ucd_table.proofs.Facts.{Stepped-everywhere}
use Rattle.ucd_derived.proofs.BinaryLemmas.{is_xid_continue_stepped}
use Rattle.unicode_ident.specs.Ident.{is_xid_continue}
use Rattle.unicode_ident.proofs.IdentLemmas.{is_xid_continue-ascii}
use Rattle.unicode_ident.proofs.Computing.{unicode_ident}
use Rattle.cc_base.specs.Names.{IsName}
use Rattle.cc_words.specs.Words.{name_of}
use Rattle.cc_words.proofs.Steps.{both, Lacks, Lacks-append, name_of-text}
use lib.Utf8.{scalar, scalars, encode, next}

-- The scalar values are two ranges, so whether a number is one is told by three steps.
abbrev scalar_steps : List (Step Bool)
scalar_steps = (55296, true) ∷ (57344, false) ∷ (1114112, true) ∷ []

scalar-steps : (c : ℕ) → scalar c ≡ step_value false scalar_steps c
unfolding step_value
scalar-steps c = grind (arith, nat_tests)

abbrev scalar_stepped : Stepped scalar
scalar_stepped = record { default = false; steps = scalar_steps; gives = scalar-steps }

-- a character that may continue a name is a scalar value
pub is_xid_continue-scalar : (c : ℕ) → is_xid_continue c ≡ true → scalar c ≡ true
unfolding unicode_ident
is_xid_continue-scalar c continues =
    let steps = zip_stepped (λ a b. not a || b) is_xid_continue scalar is_xid_continue_stepped scalar_stepped in
    subst (λ a. (not a || scalar c) ≡ true) continues (Stepped-everywhere _ steps refl c)

-- a byte of a character beyond ASCII is no ASCII character
high_byte : (separator b : ℕ) → separator < 128 → 128 ≤ b → (b == separator) ≡ false
high_byte separator b low high = grind (arith, nat_tests)

Lacks-cond : (separator : ℕ) (test : Bool) (xs ys : List ℕ) → Lacks separator xs → Lacks separator ys → Lacks separator (cond test xs ys)
Lacks-cond separator true xs ys p q = p
Lacks-cond separator false xs ys p q = q

-- no byte of a character beyond ASCII is an ASCII character
Lacks-high : (separator c : ℕ) → separator < 128 → 128 ≤ c → Lacks separator (encode c)
unfolding encode
Lacks-high separator c low high =
    let other : (b : ℕ) → 128 ≤ b → (b == separator) ≡ false = λ b h. high_byte separator b low h in
    let next_byte : (b : ℕ) → (next b == separator) ≡ false = λ b. other (next b) (omega arith) in
    Lacks-cond separator (ltb c 128) _ _ (other c high, tt)
    (Lacks-cond separator (ltb c 2048) _ _ (other _ (omega arith), (next_byte c, tt))
    (Lacks-cond separator (ltb c 65536) _ _ (other _ (omega arith), (next_byte (c / 64), (next_byte c, tt)))
    (other _ (omega arith), (next_byte (c / 4096), (next_byte (c / 64), (next_byte c, tt))))))

-- an ASCII character stands in the bytes of no other character
Lacks-character : (separator c : ℕ) → separator < 128 → (c == separator) ≡ false → Lacks separator (encode c)
Lacks-character separator c low other =
    ⊎_elim (λ ascii. subst (Lacks separator) (sym (encode_ascii c ascii)) (other, tt)) (Lacks-high separator c low) (cases_lt c 128)

-- a separator is an ASCII character that may not continue a name
abbrev pub is_separator : ℕ → Bool
is_separator c = ltb c 128 && not (is_ascii_alphanumeric c || (c == 95))

-- no character that may continue a name is a separator
not_separator : (separator c : ℕ) → is_separator separator ≡ true → is_xid_continue c ≡ true → (c == separator) ≡ false
not_separator separator c apart continues =
    elim (c == separator) as (λ b. ((c == separator) ≡ b → b ≡ false)) [ true ↦ λ same. absurd (clash same) | false ↦ λ other. refl ] refl
  where
    clash : (c == separator) ≡ true → ⊥
    clash same =
        let tests = both _ _ apart in
        let equal = (Decides-eqb c separator).0 same in
        let outside = is_xid_continue-ascii separator ((Decides-ltb separator 128).0 tests.0) in
        let inside : is_xid_continue separator ≡ true = subst (λ x. is_xid_continue x ≡ true) equal continues in
        let neither = tests.1 in
        cc

Lacks-characters : (separator : ℕ) (cs : List ℕ) → is_separator separator ≡ true → list_all is_xid_continue cs ≡ true → Lacks separator (encode_utf8_all cs)
Lacks-characters separator [] apart h = tt
Lacks-characters separator (c ∷ cs) apart h =
    let each = both (is_xid_continue c) (list_all is_xid_continue cs) h in
    let low = (Decides-ltb separator 128).0 (both _ _ apart).0 in
    Lacks-append separator (encode c) (encode_utf8_all cs)
    (Lacks-character separator c low (not_separator separator c apart each.0))
    (Lacks-characters separator cs apart each.1)

scalars-characters : (cs : List ℕ) → list_all is_xid_continue cs ≡ true → scalars cs ≡ true
scalars-characters [] h = refl
scalars-characters (c ∷ cs) h =
    let each = both (is_xid_continue c) (list_all is_xid_continue cs) h in
    rw (is_xid_continue-scalar c each.0, scalars-characters cs each.1) refl

-- each character of a name may continue it
name_characters : (name : List ℕ) → IsName name → list_all is_xid_continue name ≡ true
name_characters name named = (both _ _ (both _ _ named).0).1

-- no separator stands in the text of a name
pub Lacks-name : (separator : ℕ) (name : List ℕ) → is_separator separator ≡ true → IsName name → Lacks separator (encode_utf8_all name)
Lacks-name separator name apart named = Lacks-characters separator name apart (name_characters name named)

-- the text of a name is read as that name
pub name_of-encoded : (name : List ℕ) → IsName name → name_of (encode_utf8_all name) ≡ Some name
name_of-encoded name named =
    let each = scalars-characters name (name_characters name named) in
    let same = chars-encodes name each in
    name_of-text (encode_utf8_all name) (name, (each, refl)) (subst (λ cs. IsName cs) (sym same) named) ∙ ap Some same
