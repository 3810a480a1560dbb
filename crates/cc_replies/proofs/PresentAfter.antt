-- Present texts stay in order of name, and one for each name.
use Rattle.std.proofs.Common.{◌≡◌, Bool, true, false, cond, List, [], ◌∷◌, refl, ap, ◌∙◌, if◌then◌else◌, bytes_eq}
use Rattle.std.specs.Prelude.{encode_utf8_all}
use Rattle.std.specs.BTreeMap.{insert_entry}
use Rattle.std.specs.Cmp.{IsTotalOrder}
use Rattle.std.specs.List.{AllByRecursion}
use Rattle.std.specs.List.Sorted.{IsStrictlySortedBy}
use Rattle.std.specs.Map.{keys_of, remove_entry}
use Rattle.std.specs.Ordering.{match_ordering, ordering_reverse}
use Rattle.std.specs.declared.cmp.Ordering.{Ordering}
use Rattle.std.specs.declared.cmp.Ordering.TheVariants.{Less, Equal, Greater}
use Rattle.std.proofs.lemmas.Cmp.{on_total, nat_list_cmp_total}
use Rattle.cc_base.specs.Names.{compare_names}
use Rattle.cc_verdicts.specs.PresentTexts.{Texts, ArePresent}
use Rattle.cc_replies.specs.ReplyTexts.{is_refusal}
use Rattle.cc_replies.specs.Replies.{put_reply}
use Rattle.cc_replies.specs.Requests.{PutText, DropModule, SetPolicy, VerifyText, Ask}
use Rattle.cc_replies.specs.ReplyLaws.{TextsStayPresent}

names_total : IsTotalOrder compare_names
names_total = on_total encode_utf8_all nat_list_cmp_total

all_weaker : {K : Type 0} (P Q : K → Type 0) → ((x : K) → P x → Q x) → (xs : List K) → AllByRecursion P xs
    → AllByRecursion Q xs
all_weaker P Q f [] h = tt
all_weaker P Q f (x ∷ xs) h = (f x h.0, all_weaker P Q f xs h.1)

all_at : {K X : Type 0} (P : K → Type 0) (k : K) (v : X) (e : K × X) (es more : List (K × X)) (r : Ordering) → P k
    → AllByRecursion P (keys_of (e ∷ es)) → AllByRecursion P (keys_of more)
    → AllByRecursion P (keys_of (match_ordering r ((k, v) ∷ e ∷ es) ((e.0, v) ∷ es) (e ∷ more)))
all_at P k v e es more Less p h m = (p, h)
all_at P k v e es more Equal p h m = h
all_at P k v e es more Greater p h m = (h.0, m)

-- what holds of all keys and of one more holds where that one is put
all_put : {K X : Type 0} (R : K → K → Ordering) (P : K → Type 0) (k : K) (v : X) (es : List (K × X)) → P k
    → AllByRecursion P (keys_of es) → AllByRecursion P (keys_of (insert_entry R es k v))
all_put R P k v [] p h = (p, tt)
all_put R P k v (e ∷ es) p h = all_at P k v e es (insert_entry R es k v) (R k e.0) p h (all_put R P k v es p h.1)

sorted_at : {K X : Type 0} (R : K → K → Ordering) → IsTotalOrder R → (k : K) (v : X) (e : K × X)
    (es more : List (K × X)) (r : Ordering) → R k e.0 ≡ r → IsStrictlySortedBy R (keys_of (e ∷ es))
    → (R e.0 k ≡ Less → AllByRecursion (λ y. R e.0 y ≡ Less) (keys_of more)) → IsStrictlySortedBy R (keys_of more)
    → IsStrictlySortedBy R (keys_of (match_ordering r ((k, v) ∷ e ∷ es) ((e.0, v) ∷ es) (e ∷ more)))
unfolding IsStrictlySortedBy
sorted_at R o k v e es more Less is s above m =
    ((is, all_weaker (λ y. R e.0 y ≡ Less) (λ y. R k y ≡ Less) (λ y. o.trans k e.0 y is) (keys_of es) s.0), s)
sorted_at R o k v e es more Equal is s above m = s
sorted_at R o k v e es more Greater is s above m = (above (o.antisymm e.0 k ∙ ap ordering_reverse is), m)

sorted_put : {K X : Type 0} (R : K → K → Ordering) → IsTotalOrder R → (k : K) (v : X) (es : List (K × X))
    → IsStrictlySortedBy R (keys_of es) → IsStrictlySortedBy R (keys_of (insert_entry R es k v))
unfolding IsStrictlySortedBy
sorted_put R o k v [] s = (tt, tt)
sorted_put R o k v (e ∷ es) s =
    sorted_at R o k v e es (insert_entry R es k v) (R k e.0) refl s
    (λ below. all_put R (λ y. R e.0 y ≡ Less) k v es below s.0) (sorted_put R o k v es s.1)

all_cond : {K X : Type 0} (P : K → Type 0) (b : Bool) (x y : List (K × X)) → AllByRecursion P (keys_of x)
    → AllByRecursion P (keys_of y) → AllByRecursion P (keys_of (cond b x y))
all_cond P true x y p q = p
all_cond P false x y p q = q

all_without : {K X : Type 0} (test : K → Bool) (P : K → Type 0) (es : List (K × X)) → AllByRecursion P (keys_of es)
    → AllByRecursion P (keys_of (remove_entry test es))
all_without test P [] h = tt
all_without test P (e ∷ es) h =
    all_cond P (test e.0) es (e ∷ remove_entry test es) h.1 (h.0, all_without test P es h.1)

sorted_cond : {K X : Type 0} (R : K → K → Ordering) (b : Bool) (x y : List (K × X))
    → IsStrictlySortedBy R (keys_of x) → IsStrictlySortedBy R (keys_of y) → IsStrictlySortedBy R (keys_of (cond b x y))
sorted_cond R true x y p q = p
sorted_cond R false x y p q = q

sorted_without : {K X : Type 0} (R : K → K → Ordering) (test : K → Bool) (es : List (K × X))
    → IsStrictlySortedBy R (keys_of es) → IsStrictlySortedBy R (keys_of (remove_entry test es))
unfolding IsStrictlySortedBy
sorted_without R test [] s = tt
sorted_without R test (e ∷ es) s =
    sorted_cond R (test e.0) es (e ∷ remove_entry test es) s.1
    (all_without test (λ y. R e.0 y ≡ Less) es s.0, sorted_without R test es s.1)

either_present : (b : Bool) (x y : Texts) → ArePresent x → ArePresent y → ArePresent (if b then x else y)
either_present true x y p q = p
either_present false x y p q = q

pub texts_stay_present : TextsStayPresent
texts_stay_present state (PutText name text) sorted =
    either_present (is_refusal (put_reply state.texts name text)) state.texts (insert_entry compare_names state.texts name text) sorted
    (sorted_put compare_names names_total name text state.texts sorted)
texts_stay_present state (DropModule name) sorted =
    sorted_without compare_names (bytes_eq name) state.texts sorted
texts_stay_present state (SetPolicy rules) sorted = sorted
texts_stay_present state (VerifyText text) sorted = sorted
texts_stay_present state (Ask question) sorted = sorted
