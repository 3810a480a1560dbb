-- Bytes are one submission at most.
use Rattle.std.proofs.Common.{◌≡◌, ℕ, suc, ◌<◌, ◌≤◌, ◌^◌, ◌+◌, List, [], ◌∷◌, ◌++◌, length, map, Some, refl, sym, ap, ◌∙◌, codes, arith, ℤ, pos, negsuc}
use Rattle.std.specs.Prelude.{encode_utf8_all, IsTrue}
use Rattle.std.specs.Fmt.{decimal, signed_decimal}
use Rattle.std.specs.List.{AllByRecursion, flat_map}
use Rattle.std.proofs.lemmas.Bool.Decides.{nat_tests}
use Rattle.cc_base.specs.Names.{IsName}
use Rattle.cc_base.specs.declared.device.DeviceDecl.{DeviceDecl}
use Rattle.cc_base.specs.declared.device.Kind.{Kind}
use Rattle.cc_base.specs.declared.device.Kind.TheVariants.{Console, File, Counter}
use Rattle.cc_words.specs.Lines.{Line, lines_of}
use Rattle.cc_words.specs.Words.{joined, pair_text, IsPair, name_of, number_of, pair_of, has_64_bits, split_at}
use Rattle.cc_words.proofs.LineLists.{terminated, lines_of-whole, terminated-lines_of, lines-lack, AllLack-append, cons_parts}
use Rattle.cc_words.proofs.NameBytes.{Lacks-name, name_of-encoded}
use Rattle.cc_words.proofs.Numbers.{Lacks-decimal, number_of-decimal, Lacks-pair, pair_of-text}
use Rattle.cc_words.proofs.Splits.{AllLack, Lacks-test, split_at-joined, Lacks-joined}
use Rattle.cc_words.proofs.Steps.{Lacks, Lacks-append}
use Rattle.cc_job.specs.Jobs as job
use Rattle.cc_job.specs.Jobs.{text, kind_words, IsKind}
use Rattle.cc_job.proofs.ItemLists.{one_item, equal_fronts}
use Rattle.cc_vouching.specs.Submissions.{Claim, ClaimedModule, Submission, Item, Declares, Presents, Claims, item_lines, AreCounted, IsItem, module_items, items_of, first_line, submission_lines, IsSubmission}
use Rattle.cc_vouching_laws.specs.SubmissionLaws.{BytesAreOneSubmission}

-- LINE FEEDS

signed_lacks : (z : ℤ) → IsTrue (has_64_bits z) → Lacks 10 (signed_decimal z)
signed_lacks (pos n) fits = Lacks-decimal 10 n (omega arith) (grind (arith, nat_tests))
signed_lacks (negsuc n) fits = (refl, Lacks-decimal 10 (suc n) (omega arith) (grind (arith, nat_tests)))

numbers_lack : (numbers : List ℤ) → AllByRecursion (λ number. IsTrue (has_64_bits number)) numbers
    → AllLack 10 (map signed_decimal numbers)
numbers_lack [] all = tt
numbers_lack (number ∷ numbers) all = (signed_lacks number all.0, numbers_lack numbers all.1)

kind_lacks : (kind : Kind) → IsKind kind → AllLack 10 (kind_words kind)
kind_lacks Console is = (Lacks-test 10 (codes "console") refl, tt)
kind_lacks (File numbers) is = (Lacks-test 10 (codes "file") refl, numbers_lack numbers is)
kind_lacks Counter is = (Lacks-test 10 (codes "counter") refl, tt)

small_count : (n : ℕ) → n ≤ 4194304 → n < 2 ^ 64
small_count n h = omega arith

pair_lacks : (pair : List ℕ × List ℕ) → IsPair pair → Lacks 10 (pair_text pair)
pair_lacks pair is =
    Lacks-append 10 (encode_utf8_all pair.0 ++ codes ".") (encode_utf8_all pair.1)
    (Lacks-append 10 (encode_utf8_all pair.0) (codes ".") (Lacks-name 10 pair.0 refl is.0) (refl, tt))
    (Lacks-name 10 pair.1 refl is.1)

item_lacks : (item : Item) → IsItem item → AllLack 10 (item_lines item)
item_lacks (Declares device) is = (
  Lacks-joined 32 10 (codes "device" ∷ encode_utf8_all device.name ∷ kind_words device.kind) refl
      (Lacks-test 10 (codes "device") refl, (Lacks-name 10 device.name refl is.0, kind_lacks device.kind is.1)),
  tt,
)
item_lacks (Presents name source) is = (
  Lacks-joined 32 10 (codes "module" ∷ encode_utf8_all name ∷ decimal (length (lines_of source)) ∷ []) refl (
    Lacks-test 10 (codes "module") refl,
    (
      Lacks-name 10 name refl is.0,
      (Lacks-decimal 10 (length (lines_of source)) (omega arith) (small_count (length (lines_of source)) is.1.1), tt),
    ),
  ),
  lines-lack source,
)
item_lacks (Claims owner definition certificate) is = (
  Lacks-joined 32 10
      (codes "claim" ∷ pair_text (owner, definition) ∷ decimal (length (lines_of certificate)) ∷ []) refl (
        Lacks-test 10 (codes "claim") refl,
        (
          pair_lacks (owner, definition) is.0,
          (Lacks-decimal 10 (length (lines_of certificate)) (omega arith) (small_count (length (lines_of certificate)) is.1.1), tt),
        ),
      ),
  lines-lack certificate,
)

items_lack : (items : List Item) → AllByRecursion IsItem items → AllLack 10 (flat_map item_lines items)
items_lack [] all = tt
items_lack (item ∷ items) all =
    AllLack-append 10 (item_lines item) (flat_map item_lines items) (item_lacks item all.0) (items_lack items all.1)

terminated-text : (lines : List Line) → text lines ≡ terminated lines
terminated-text [] = refl
terminated-text (line ∷ lines) = ap (λ rest. line ++ 10 ∷ rest) (terminated-text lines)

lines_back : (bytes : List ℕ) (submission : Submission) → IsSubmission bytes submission
    → lines_of bytes ≡ submission_lines submission
lines_back bytes submission is =
    ap lines_of (is.written ∙ terminated-text (submission_lines submission))
    ∙ lines_of-whole (submission_lines submission)
    (Lacks-test 10 first_line refl, items_lack (items_of submission) is.fit.items)

-- ITEMS

some_same : {A : Type 0} (x y : A) → Some x ≡ Some y → x ≡ y
some_same x y e = cc

same_words : (word other : List ℕ) (words others : List (List ℕ)) → AllLack 32 (word ∷ words)
    → AllLack 32 (other ∷ others) → joined 32 (word ∷ words) ≡ joined 32 (other ∷ others)
    → word ∷ words ≡ other ∷ others
same_words word other words others lack also e =
    sym (split_at-joined 32 word words lack) ∙ ap (split_at 32) e ∙ split_at-joined 32 other others also

same_names : (name other : List ℕ) → IsName name → IsName other → encode_utf8_all name ≡ encode_utf8_all other
    → name ≡ other
same_names name other is also e =
    some_same name other (sym (name_of-encoded name is) ∙ ap name_of e ∙ name_of-encoded other also)

same_pairs : (pair other : List ℕ × List ℕ) → IsPair pair → IsPair other → pair_text pair ≡ pair_text other
    → pair ≡ other
same_pairs pair other is also e =
    some_same pair other (sym (pair_of-text pair is) ∙ ap pair_of e ∙ pair_of-text other also)

same_counts : (n m : ℕ) → n ≤ 4194304 → m ≤ 4194304 → decimal n ≡ decimal m → n ≡ m
same_counts n m h k e =
    some_same n m
    (sym (number_of-decimal 4194304 n (omega arith) h) ∙ ap (number_of 4194304) e ∙ number_of-decimal 4194304 m (omega arith) k)

-- what stands behind a line with the number of lines
same_behind : (bytes others : List ℕ) (rest more : List Line) → AreCounted bytes → AreCounted others
    → decimal (length (lines_of bytes)) ≡ decimal (length (lines_of others))
    → lines_of bytes ++ rest ≡ lines_of others ++ more → (bytes ≡ others) × (rest ≡ more)
same_behind bytes others rest more is also count e =
    let lengths = same_counts (length (lines_of bytes)) (length (lines_of others)) is.1 also.1 count in
    let fronts = equal_fronts (lines_of bytes) (lines_of others) rest more lengths e in (
      sym (terminated-lines_of bytes is.0) ∙ ap terminated fronts.0 ∙ terminated-lines_of others also.0,
      fronts.1,
    )

head_of_line : List ℕ → ℕ
head_of_line [] = 0
head_of_line (byte ∷ bytes) = byte

-- lines that begin with other letters
other_letters : {B : Type 0} (line other : Line) (rest more : List Line) (n m : ℕ) → head_of_line line ≡ n
    → head_of_line other ≡ m → (n ≡ m → ⊥) → line ∷ rest ≡ other ∷ more → B
other_letters line other rest more n m is also apart e =
    absurd (apart (sym is ∙ ap head_of_line (cons_parts line other rest more e).0 ∙ also))

device_not_module : ◌≡◌ {A = ℕ} 100 109 → ⊥
device_not_module e = absurd (omega (arith, e))

device_not_claim : ◌≡◌ {A = ℕ} 100 99 → ⊥
device_not_claim e = absurd (omega (arith, e))

module_not_claim : ◌≡◌ {A = ℕ} 109 99 → ⊥
module_not_claim e = absurd (omega (arith, e))

same_devices : (a b : DeviceDecl) → job.Declares a ≡ job.Declares b → a ≡ b
same_devices a b e = cc

first_item : (item other : Item) (rest more : List Line) → IsItem item → IsItem other
    → item_lines item ++ rest ≡ item_lines other ++ more → (item ≡ other) × (rest ≡ more)
unfolding head_of_line
first_item (Declares a) (Declares b) rest more is also e =
    let same = one_item (job.Declares a) (job.Declares b) rest more is also e in
    (ap Declares (same_devices a b same.0), same.1)
first_item (Declares a) (Presents name source) rest more is also e =
    other_letters _ _ _ _ 100 109 refl refl device_not_module e
first_item (Declares a) (Claims owner definition certificate) rest more is also e =
    other_letters _ _ _ _ 100 99 refl refl device_not_claim e
first_item (Presents name source) (Declares b) rest more is also e =
    other_letters _ _ _ _ 109 100 refl refl (λ h. device_not_module (sym h)) e
first_item (Presents name source) (Claims owner definition certificate) rest more is also e =
    other_letters _ _ _ _ 109 99 refl refl module_not_claim e
first_item (Claims owner definition certificate) (Declares b) rest more is also e =
    other_letters _ _ _ _ 99 100 refl refl (λ h. device_not_claim (sym h)) e
first_item (Claims owner definition certificate) (Presents name source) rest more is also e =
    other_letters _ _ _ _ 99 109 refl refl (λ h. module_not_claim (sym h)) e
first_item (Presents name source) (Presents name' source') rest more is also e =
    let words : List (List ℕ) = encode_utf8_all name ∷ decimal (length (lines_of source)) ∷ [] in
    let words' : List (List ℕ) = encode_utf8_all name' ∷ decimal (length (lines_of source')) ∷ [] in
    let lack : AllLack 32 (codes "module" ∷ words) = (
      Lacks-test 32 (codes "module") refl,
      (
        Lacks-name 32 name refl is.0,
        (Lacks-decimal 32 (length (lines_of source)) (omega arith) (small_count (length (lines_of source)) is.1.1), tt),
      ),
    ) in
    let lack' : AllLack 32 (codes "module" ∷ words') = (
      Lacks-test 32 (codes "module") refl,
      (
        Lacks-name 32 name' refl also.0,
        (Lacks-decimal 32 (length (lines_of source')) (omega arith) (small_count (length (lines_of source')) also.1.1), tt),
      ),
    ) in
    let parts =
    cons_parts (joined 32 (codes "module" ∷ words)) (joined 32 (codes "module" ∷ words')) (lines_of source ++ rest)
    (lines_of source' ++ more) e in
    let all = same_words (codes "module") (codes "module") words words' lack lack' parts.0 in
    let behind = (cons_parts (codes "module") (codes "module") words words' all).1 in
    let named = cons_parts (encode_utf8_all name) (encode_utf8_all name') _ _ behind in
    let counted = (cons_parts (decimal (length (lines_of source))) (decimal (length (lines_of source'))) [] [] named.1).0 in
    let told = same_behind source source' rest more is.1 also.1 counted parts.1 in
    let names = same_names name name' is.0 also.0 named.0 in
    ((λ i. Presents (names i) (told.0 i)), told.1)
first_item (Claims owner definition bytes) (Claims owner' definition' bytes') rest more is also e =
    let pair : List ℕ × List ℕ = (owner, definition) in
    let pair' : List ℕ × List ℕ = (owner', definition') in
    let words : List (List ℕ) = pair_text pair ∷ decimal (length (lines_of bytes)) ∷ [] in
    let words' : List (List ℕ) = pair_text pair' ∷ decimal (length (lines_of bytes')) ∷ [] in
    let lack : AllLack 32 (codes "claim" ∷ words) = (
      Lacks-test 32 (codes "claim") refl,
      (
        Lacks-pair pair is.0,
        (Lacks-decimal 32 (length (lines_of bytes)) (omega arith) (small_count (length (lines_of bytes)) is.1.1), tt),
      ),
    ) in
    let lack' : AllLack 32 (codes "claim" ∷ words') = (
      Lacks-test 32 (codes "claim") refl,
      (
        Lacks-pair pair' also.0,
        (Lacks-decimal 32 (length (lines_of bytes')) (omega arith) (small_count (length (lines_of bytes')) also.1.1), tt),
      ),
    ) in
    let parts =
    cons_parts (joined 32 (codes "claim" ∷ words)) (joined 32 (codes "claim" ∷ words')) (lines_of bytes ++ rest)
    (lines_of bytes' ++ more) e in
    let all = same_words (codes "claim") (codes "claim") words words' lack lack' parts.0 in
    let behind = (cons_parts (codes "claim") (codes "claim") words words' all).1 in
    let named = cons_parts (pair_text pair) (pair_text pair') _ _ behind in
    let counted = (cons_parts (decimal (length (lines_of bytes))) (decimal (length (lines_of bytes'))) [] [] named.1).0 in
    let told = same_behind bytes bytes' rest more is.1 also.1 counted parts.1 in
    let pairs = same_pairs pair pair' is.0 also.0 named.0 in
    ((λ i. Claims (pairs i).0 (pairs i).1 (told.0 i)), told.1)

no_lines : {B : Type 0} (item : Item) (rest : List Line) → [] ≡ item_lines item ++ rest → B
no_lines (Declares device) rest e = cc
no_lines (Presents name source) rest e = cc
no_lines (Claims owner definition certificate) rest e = cc

same_items : (items others : List Item) → AllByRecursion IsItem items → AllByRecursion IsItem others
    → flat_map item_lines items ≡ flat_map item_lines others → items ≡ others
same_items [] [] all also e = refl
same_items [] (other ∷ others) all also e = no_lines other (flat_map item_lines others) e
same_items (item ∷ items) [] all also e = no_lines item (flat_map item_lines items) (sym e)
same_items (item ∷ items) (other ∷ others) all also e =
    let first = first_item item other (flat_map item_lines items) (flat_map item_lines others) all.0 also.0 e in
    let rest = same_items items others all.1 also.1 first.1 in
    λ i. first.0 i ∷ rest i

-- SUBMISSIONS

modules_of : List ClaimedModule → List Item
modules_of modules = flat_map module_items modules

presents_parts : (name other source more : List ℕ) → Presents name source ≡ Presents other more
    → (name ≡ other) × (source ≡ more)
presents_parts name other source more e = (cc, cc)

claims_parts : (a b c a' b' c' : List ℕ) → Claims a b c ≡ Claims a' b' c' → (b ≡ b') × (c ≡ c')
claims_parts a b c a' b' c' e = (cc, cc)

claim_items : List ℕ → List Claim → List Item
claim_items owner claims = map (λ (claim : Claim). Claims owner claim.definition claim.certificate) claims

-- no claim stands where a module begins, or nothing
no_claim : {B : Type 0} (modules : List ClaimedModule) (owner definition certificate : List ℕ) (rest : List Item)
    → modules_of modules ≡ Claims owner definition certificate ∷ rest → B
unfolding modules_of
no_claim [] owner definition certificate rest e = cc
no_claim (it ∷ modules) owner definition certificate rest e = cc

same_claims : (owner owner' : List ℕ) (claims others : List Claim) (modules more : List ClaimedModule)
    → claim_items owner claims ++ modules_of modules ≡ claim_items owner' others ++ modules_of more
    → (claims ≡ others) × (modules_of modules ≡ modules_of more)
unfolding claim_items
same_claims owner owner' [] [] modules more e = (refl, e)
same_claims owner owner' [] (other ∷ others) modules more e =
    no_claim modules owner' other.definition other.certificate (claim_items owner' others ++ modules_of more) e
same_claims owner owner' (claim ∷ claims) [] modules more e =
    no_claim more owner claim.definition claim.certificate (claim_items owner claims ++ modules_of modules) (sym e)
same_claims owner owner' (claim ∷ claims) (other ∷ others) modules more e =
    let parts =
    cons_parts (Claims owner claim.definition claim.certificate) (Claims owner' other.definition other.certificate) _ _ e in
    let own = claims_parts owner claim.definition claim.certificate owner' other.definition other.certificate parts.0 in
    let rest = same_claims owner owner' claims others modules more parts.1 in
    ((λ i. record { definition = own.0 i; certificate = own.1 i } ∷ rest.0 i), rest.1)

same_modules : (modules more : List ClaimedModule) → modules_of modules ≡ modules_of more → modules ≡ more
unfolding modules_of claim_items
same_modules [] [] e = refl
same_modules [] (other ∷ more) e = cc
same_modules (it ∷ modules) [] e = cc
same_modules (it ∷ modules) (other ∷ more) e =
    let parts =
    cons_parts (Presents it.name it.source) (Presents other.name other.source)
    (claim_items it.name it.claims ++ modules_of modules) (claim_items other.name other.claims ++ modules_of more) e in
    let own = presents_parts it.name other.name it.source other.source parts.0 in
    let claims = same_claims it.name other.name it.claims other.claims modules more parts.1 in
    let rest = same_modules modules more claims.1 in
    λ i. record { name = own.0 i; source = own.1 i; claims = claims.0 i } ∷ rest i

no_device : {B : Type 0} (modules : List ClaimedModule) (device : DeviceDecl) (rest : List Item)
    → modules_of modules ≡ Declares device ∷ rest → B
unfolding modules_of
no_device [] device rest e = cc
no_device (it ∷ modules) device rest e = cc

same_declared : (a b : DeviceDecl) → Declares a ≡ Declares b → a ≡ b
same_declared a b e = cc

same_parts : (devices others : List DeviceDecl) (modules more : List ClaimedModule)
    → map Declares devices ++ modules_of modules ≡ map Declares others ++ modules_of more
    → (devices ≡ others) × (modules ≡ more)
same_parts [] [] modules more e = (refl, same_modules modules more e)
same_parts [] (other ∷ others) modules more e =
    no_device modules other (map Declares others ++ modules_of more) e
same_parts (device ∷ devices) [] modules more e =
    no_device more device (map Declares devices ++ modules_of modules) (sym e)
same_parts (device ∷ devices) (other ∷ others) modules more e =
    let parts = cons_parts (Declares device) (Declares other) _ _ e in
    let first = same_declared device other parts.0 in
    let rest = same_parts devices others modules more parts.1 in
    ((λ i. first i ∷ rest.0 i), rest.1)

pub one_submission : BytesAreOneSubmission
unfolding modules_of
one_submission bytes a b is also =
    let lines = sym (lines_back bytes a is) ∙ lines_back bytes b also in
    let items =
    same_items (items_of a) (items_of b) is.fit.items also.fit.items
    (cons_parts first_line first_line (flat_map item_lines (items_of a)) (flat_map item_lines (items_of b)) lines).1 in
    let parts = same_parts a.devices b.devices a.modules b.modules items in
    λ i. record { devices = parts.0 i; modules = parts.1 i }
