-- The certificates of two texts, in which each rule has a node.
use Rattle.std.specs.Prelude.{◌≡◌, ℕ, codes, List, [], ◌∷◌, ◌++◌}
use Rattle.cc_checking.specs.Verdicts.{Accepted}
use Rattle.cc_verdicts.specs.ExampleModules.{console, named}
use Rattle.cc_verdicts.specs.ModuleVerdicts.{IsAccepted, HasModuleVerdict}
use Rattle.cc_certificate_writing.specs.Certificates.{lines_text}
use Rattle.cc_verdicts.specs.StandingDefinitions.{context_behind, names_behind}
use Rattle.cc_certificate_writing.specs.DefinitionCertificates.{definition_certificate}
use Rattle.cc_certificate_laws.specs.ModuleCertificates.{IsCertified}

-- The text has one definition, of the name, which is accepted beside a console `out`. Its certificate has these lines,
-- and is right.
abbrev pub IsWrittenAs : List ℕ → List ℕ → List (List ℕ) → Type 0
IsWrittenAs text name lines =
    (accepted : Accepted)
    × HasModuleVerdict console text [] (IsAccepted (named name accepted ∷ []))
    × (definition_certificate (names_behind console [] [] (named name accepted))
    (context_behind console [] [] (named name accepted)) accepted
    ≡ lines_text lines)
    × IsCertified (names_behind console [] [] (named name accepted))
    (context_behind console [] [] (named name accepted)) accepted

-- Type functions, boxes, and comparisons of each form of shapes: a type variable is below its bound, functions are
-- below others, and so are type functions and boxes.
abbrev pub generic_text : List ℕ
generic_text =
    codes "def generic = fun [X <: (i: Int) -> Unit] => fun (f: X) => "
    ++ codes "val p: [Y <: Any] -> (z: Int) -> Any = fun [Y <: Any] => fun (z: Int) => 1; "
    ++ codes "val q = p[X]; val b: Box[Any] = box f; val u = unbox {} b; f(2)"

-- An operation, a repetition, a choice, a boundary and an exit.
abbrev pub control_text : List ℕ
control_text =
    codes "def control = fun (n: Int) => val f = fun (i: Int) => out.print(i); val r = repeat(n, f); "
    ++ codes "val c = n < n; boundary [Int] e => if [Int] c then exit [Int] (e, n) else n"

abbrev pub generic_lines : List (List ℕ)
generic_lines =
    codes "cert 1" ∷
    codes "bind out: Console^{cap}" ∷
    (codes "term fun [_T0 <: (_0: Int) -> Unit] => fun (_1: _T0) => "
    ++ codes "let _2: [_T2 <: Any] -> (_3: Int) -> Any = fun [_T2 <: Any] => fun (_3: Int) => 1 in "
    ++ codes "let _3 = _2[_T0] in let _4: Box[Any] = box _1 in let _5 = unbox {} _4 in let _6 = 2 in _1(_6)") ∷
    codes "1 t-lit [] : Int" ∷
    codes "2 t-abs [1] : (_3: Int) -> Int" ∷
    codes "3 t-tabs [2] : [_T2 <: Any] -> (_3: Int) -> Int" ∷
    codes "4 set [] {} <: {}" ∷
    codes "5 refl [] Any <: Any" ∷
    codes "6 set [] {} <: {}" ∷
    codes "7 set [] {} <: {}" ∷
    codes "8 refl [] Int <: Int" ∷
    codes "9 capt [7 8] Int <: Int" ∷
    codes "10 set [] {} <: {}" ∷
    codes "11 top [] Int <: Any" ∷
    codes "12 capt [10 11] Int <: Any" ∷
    codes "13 fun [9 12] (_3: Int) -> Int <: (_3: Int) -> Any" ∷
    codes "14 capt [6 13] (_3: Int) -> Int <: (_3: Int) -> Any" ∷
    codes "15 tfun [5 14] [_T2 <: Any] -> (_3: Int) -> Int <: [_T2 <: Any] -> (_3: Int) -> Any" ∷
    codes "16 capt [4 15] [_T2 <: Any] -> (_3: Int) -> Int <: [_T2 <: Any] -> (_3: Int) -> Any" ∷
    codes "17 t-sub [3 16] : [_T2 <: Any] -> (_3: Int) -> Any" ∷
    codes "18 t-var [] : ([_T3 <: Any] -> (_4: Int) -> Any)^{_2}" ∷
    codes "19 top [] _T0 <: Any" ∷
    codes "20 t-tapp [18 19] : (_3: Int) -> Any" ∷
    codes "21 t-var [] : _T0^{_1}" ∷
    codes "22 t-box [21] : Box[_T0^{_1}]" ∷
    codes "23 set [] {} <: {}" ∷
    codes "24 set [] {} <: {}" ∷
    codes "25 var [24] {_1} <: {}" ∷
    codes "26 set [25] {_1} <: {}" ∷
    codes "27 top [] _T0 <: Any" ∷
    codes "28 capt [26 27] _T0^{_1} <: Any" ∷
    codes "29 boxed [28] Box[_T0^{_1}] <: Box[Any]" ∷
    codes "30 capt [23 29] Box[_T0^{_1}] <: Box[Any]" ∷
    codes "31 t-sub [22 30] : Box[Any]" ∷
    codes "32 t-var [] : Box[Any]^{_4}" ∷
    codes "33 elem [] {_4} <: {_4}" ∷
    codes "34 set [33] {_4} <: {_4}" ∷
    codes "35 refl [] Box[Any] <: Box[Any]" ∷
    codes "36 capt [34 35] Box[Any]^{_4} <: Box[Any]^{_4}" ∷
    codes "37 t-sub [32 36] : Box[Any]^{_4}" ∷
    codes "38 t-unbox [37] : Any" ∷
    codes "39 t-lit [] : Int" ∷
    codes "40 t-var [] : _T0^{_1}" ∷
    codes "41 elem [] {_1} <: {_1}" ∷
    codes "42 set [41] {_1} <: {_1}" ∷
    codes "43 tvar [] _T0 <: (_7: Int) -> Unit" ∷
    codes "44 refl [] (_7: Int) -> Unit <: (_7: Int) -> Unit" ∷
    codes "45 tran [43 44] _T0 <: (_7: Int) -> Unit" ∷
    codes "46 capt [42 45] _T0^{_1} <: ((_7: Int) -> Unit)^{_1}" ∷
    codes "47 t-sub [40 46] : ((_7: Int) -> Unit)^{_1}" ∷
    codes "48 t-var [] : Int^{_6}" ∷
    codes "49 set [] {} <: {}" ∷
    codes "50 var [49] {_6} <: {}" ∷
    codes "51 set [50] {_6} <: {}" ∷
    codes "52 refl [] Int <: Int" ∷
    codes "53 capt [51 52] Int^{_6} <: Int" ∷
    codes "54 t-sub [48 53] : Int" ∷
    codes "55 t-app [47 54] : Unit" ∷
    codes "56 t-let [39 55] : Unit" ∷
    codes "57 t-let [38 56] : Unit" ∷
    codes "58 t-let [31 57] : Unit" ∷
    codes "59 t-let [20 58] : Unit" ∷
    codes "60 t-let [17 59] : Unit" ∷
    codes "61 t-abs [60] : (_1: _T0) -> Unit" ∷
    codes "62 t-tabs [61] : [_T0 <: (_0: Int) -> Unit] -> (_1: _T0) -> Unit" ∷ []

abbrev pub control_lines : List (List ℕ)
control_lines =
    codes "cert 1" ∷
    codes "bind out: Console^{cap}" ∷
    (codes "term fun (_0: Int) => let _1 = fun (_1: Int) => out.print(_1) in let _2 = repeat(_0, _1) in "
    ++ codes "let _3 = _0 < _0 in boundary [Int] _4 => if [Int] _3 then exit [Int] (_4, _0) else _0") ∷
    codes "1 t-var [] : Console^{out}" ∷
    codes "2 t-var [] : Int^{_1}" ∷
    codes "3 elem [] {_1} <: {_1}" ∷
    codes "4 set [3] {_1} <: {_1}" ∷
    codes "5 refl [] Int <: Int" ∷
    codes "6 capt [4 5] Int^{_1} <: Int^{_1}" ∷
    codes "7 t-sub [2 6] : Int^{_1}" ∷
    codes "8 t-op [1 7] : Unit" ∷
    codes "9 t-abs [8] : ((_1: Int) -> Unit)^{out}" ∷
    codes "10 t-var [] : Int^{_0}" ∷
    codes "11 elem [] {_0} <: {_0}" ∷
    codes "12 set [11] {_0} <: {_0}" ∷
    codes "13 refl [] Int <: Int" ∷
    codes "14 capt [12 13] Int^{_0} <: Int^{_0}" ∷
    codes "15 t-sub [10 14] : Int^{_0}" ∷
    codes "16 t-var [] : ((_2: Int) -> Unit)^{_1}" ∷
    codes "17 elem [] {_1} <: {_1}" ∷
    codes "18 set [17] {_1} <: {_1}" ∷
    codes "19 refl [] (_2: Int) -> Unit <: (_2: Int) -> Unit" ∷
    codes "20 capt [18 19] ((_2: Int) -> Unit)^{_1} <: ((_2: Int) -> Unit)^{_1}" ∷
    codes "21 t-sub [16 20] : ((_2: Int) -> Unit)^{_1}" ∷
    codes "22 t-repeat [15 21] : Unit" ∷
    codes "23 t-var [] : Int^{_0}" ∷
    codes "24 elem [] {_0} <: {_0}" ∷
    codes "25 set [24] {_0} <: {_0}" ∷
    codes "26 refl [] Int <: Int" ∷
    codes "27 capt [25 26] Int^{_0} <: Int^{_0}" ∷
    codes "28 t-sub [23 27] : Int^{_0}" ∷
    codes "29 t-var [] : Int^{_0}" ∷
    codes "30 elem [] {_0} <: {_0}" ∷
    codes "31 set [30] {_0} <: {_0}" ∷
    codes "32 refl [] Int <: Int" ∷
    codes "33 capt [31 32] Int^{_0} <: Int^{_0}" ∷
    codes "34 t-sub [29 33] : Int^{_0}" ∷
    codes "35 t-prim [28 34] : Bool" ∷
    codes "36 t-var [] : Bool^{_3}" ∷
    codes "37 elem [] {_3} <: {_3}" ∷
    codes "38 set [37] {_3} <: {_3}" ∷
    codes "39 refl [] Bool <: Bool" ∷
    codes "40 capt [38 39] Bool^{_3} <: Bool^{_3}" ∷
    codes "41 t-sub [36 40] : Bool^{_3}" ∷
    codes "42 t-var [] : Exit[Int]^{_4}" ∷
    codes "43 t-var [] : Int^{_0}" ∷
    codes "44 set [] {} <: {}" ∷
    codes "45 var [44] {_0} <: {}" ∷
    codes "46 set [45] {_0} <: {}" ∷
    codes "47 refl [] Int <: Int" ∷
    codes "48 capt [46 47] Int^{_0} <: Int" ∷
    codes "49 t-sub [43 48] : Int" ∷
    codes "50 t-exit [42 49] : Int" ∷
    codes "51 set [] {} <: {}" ∷
    codes "52 refl [] Int <: Int" ∷
    codes "53 capt [51 52] Int <: Int" ∷
    codes "54 t-sub [50 53] : Int" ∷
    codes "55 t-var [] : Int^{_0}" ∷
    codes "56 set [] {} <: {}" ∷
    codes "57 var [56] {_0} <: {}" ∷
    codes "58 set [57] {_0} <: {}" ∷
    codes "59 refl [] Int <: Int" ∷
    codes "60 capt [58 59] Int^{_0} <: Int" ∷
    codes "61 t-sub [55 60] : Int" ∷
    codes "62 t-if [41 54 61] : Int" ∷
    codes "63 set [] {} <: {}" ∷
    codes "64 refl [] Int <: Int" ∷
    codes "65 capt [63 64] Int <: Int" ∷
    codes "66 t-sub [62 65] : Int" ∷
    codes "67 t-boundary [66] : Int" ∷
    codes "68 t-let [35 67] : Int" ∷
    codes "69 t-let [22 68] : Int" ∷
    codes "70 t-let [9 69] : Int" ∷
    codes "71 t-abs [70] : ((_0: Int) -> Int)^{out}" ∷ []

abbrev pub GenericIsWritten : Type 0
GenericIsWritten = IsWrittenAs generic_text (codes "generic") generic_lines

abbrev pub ControlIsWritten : Type 0
ControlIsWritten = IsWrittenAs control_text (codes "control") control_lines
