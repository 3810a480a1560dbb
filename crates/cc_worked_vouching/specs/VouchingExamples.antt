-- Worked submissions: what is vouched for, each reason, and what a certificate might be forged by.
use Rattle.std.specs.Prelude.{◌++◌, codes, [], ◌∷◌}
use Rattle.cc_worked_vouching.specs.SubmittedTexts.{counter, claim, presented, RepliesBeside, Replies, identity, printer}
use Rattle.cc_worked_vouching.specs.SubmittedTexts.{identity_certificate, printer_term, printer_certificate, logger, logger_reply}
use Rattle.cc_worked_vouching.specs.SubmittedTexts.{caller_certificate, calling}

-- Modules that are vouched for.
pub record VouchedFor : Type 0 where
  pub two_definitions : Replies (logger ∷ []) logger_reply
  -- the order of claims, and those of other names, do not matter
  pub claims_in_another_order : Replies
      (presented (codes "log") (identity ∷ printer ∷ [])
      (claim (codes "none") [] ∷ claim (codes "line") printer_certificate ∷ claim (codes "id") identity_certificate ∷ [])
      ∷ []) logger_reply
  -- the type of the claim is over the import, which the signature avoids
  pub import : Replies
      (logger ∷ calling (caller_certificate (codes "bind line: ((_0: Int) -> Unit)^{out}")) ∷ [])
      (logger_reply ++ codes "module app" ∷ codes "  twice: ((_0: Int) -> Unit)^{out}" ∷ [])
  -- an omitted set is any with which the term is typed
  pub omitted_set : Replies
      (presented (codes "m") (codes "def f = fun (x: Int^?) => x" ∷ [])
      (claim (codes "f")
      (codes "cert 1" ∷ codes "bind out: Console^{cap}" ∷ codes "term fun (_0: Int^{out}) => _0" ∷
      codes "1 t-var [] : Int^{_0}" ∷ codes "2 t-abs [1] : (_0: Int^{out}) -> Int^{_0}" ∷ []) ∷ []) ∷ [])
      (codes "module m" ∷ codes "  f: (_0: Int^{out}) -> Int^{_0}" ∷ [])
  -- a recursive definition assumes its own signature
  pub recursion : Replies
      (presented (codes "m") (codes "def rec f: [X <: Any] -> Int = fun [X <: Any] => 1" ∷ [])
      (claim (codes "f")
      (codes "cert 1" ∷ codes "bind out: Console^{cap}" ∷ codes "bind f: [_T0 <: Any] -> Int" ∷
      codes "term fun [_T0 <: Any] => 1" ∷ codes "1 t-lit [] : Int" ∷ codes "2 t-tabs [1] : [_T0 <: Any] -> Int" ∷ [])
      ∷ []) ∷ [])
      (codes "module m" ∷ codes "  f: [_T0 <: Any] -> Int" ∷ [])
  pub nothing : Replies (presented (codes "m") [] [] ∷ []) (codes "module m" ∷ [])

-- Each reason, beside a module that is vouched for.
pub record Reasons : Type 0 where
  pub no_claim : Replies
      (presented (codes "log") (identity ∷ printer ∷ []) (claim (codes "id") identity_certificate ∷ []) ∷ [])
      (codes "  log.line: no claim" ∷ [])
  pub bad_line : Replies
      (presented (codes "log") (identity ∷ [])
      (claim (codes "id") (codes "cert 1" ∷ codes "bind out: Console^{cap}" ∷ codes "term fun (x: Unit) => x" ∷ []) ∷ [])
      ∷ [])
      (codes "  log.id: bad line 3" ∷ [])
  pub bad_node : Replies
      (presented (codes "log") (identity ∷ [])
      (claim (codes "id")
      (codes "cert 1" ∷ codes "bind out: Console^{cap}" ∷ codes "term fun (_0: Unit) => _0" ∷
      codes "1 t-var [] : Unit^{_0}" ∷ codes "2 t-abs [1] : (_0: Unit) -> Unit" ∷ []) ∷ []) ∷ [])
      (codes "  log.id: bad node 2" ∷ [])
  -- the text is refused before any claim is looked at
  pub no_module : Replies (presented (codes "m") (codes "def" ∷ []) [] ∷ []) (codes "  m: refused E03 2:1" ∷ [])
  pub no_such_module : Replies
      (calling (caller_certificate (codes "bind line: ((_0: Int) -> Unit)^{out}")) ∷ [])
      (codes "  app: refused E05 1:8" ∷ [])
  pub no_such_definition : Replies
      (presented (codes "log") [] [] ∷ calling (caller_certificate (codes "bind line: ((_0: Int) -> Unit)^{out}")) ∷ [])
      (codes "module log" ∷ codes "  app: refused E06 1:8" ∷ [])
  pub refused_module : Replies
      (presented (codes "log") (codes "def" ∷ []) []
      ∷ calling (caller_certificate (codes "bind line: ((_0: Int) -> Unit)^{out}")) ∷ [])
      (codes "  log: refused E03 2:1" ∷ codes "  app: refused E07 1:8" ∷ [])
  -- a module comes behind those that it imports from, so none imports from itself
  pub itself : Replies (presented (codes "m") (codes "import m.x" ∷ []) [] ∷ []) (codes "  m: refused E05 1:8" ∷ [])
  pub second_name : Replies
      (presented (codes "m") (codes "def out = 1" ∷ []) [] ∷ []) (codes "  m: refused E09 1:5" ∷ [])
  -- the type that is proved is not the one that is written: its set is another one, or its shape
  pub another_set : Replies
      (presented (codes "m") (codes "def f: ((x: Unit) -> Unit^{x})^{out} = fun (x: Unit) => x" ∷ [])
      (claim (codes "f") identity_certificate ∷ []) ∷ [])
      (codes "  m.f: refused E15 1:40" ∷ [])
  pub another_shape : Replies
      (presented (codes "m") (codes "def f: (x: Unit) -> Any = fun (x: Unit) => x" ∷ [])
      (claim (codes "f") identity_certificate ∷ []) ∷ [])
      (codes "  m.f: refused E14 1:27" ∷ [])
  -- no type over the devices can stand for the one that is proved
  pub no_signature : Replies
      (presented (codes "m") (codes "def x = 1" ∷ codes "def f = fun [X <: Box[Int^{x}]] => unit" ∷ [])
      (claim (codes "x")
      (codes "cert 1" ∷ codes "bind out: Console^{cap}" ∷ codes "term 1" ∷ codes "1 t-lit [] : Int" ∷ [])
      ∷ claim (codes "f")
      (codes "cert 1" ∷ codes "bind out: Console^{cap}" ∷ codes "bind x: Int" ∷
      codes "term fun [_T0 <: Box[Int^{x}]] => unit" ∷ codes "1 t-lit [] : Unit" ∷
      codes "2 t-tabs [1] : [_T0 <: Box[Int^{x}]] -> Unit" ∷ []) ∷ []) ∷ [])
      (codes "  m.f: refused E17 2:5" ∷ [])

-- What a certificate might be forged by: each is a valid one, and says nothing of the definition.
pub record Forgeries : Type 0 where
  -- an import, or an earlier definition, with a better type than the one that was vouched for
  pub better_import : Replies
      (logger ∷ calling (caller_certificate (codes "bind line: (_0: Int) -> Unit")) ∷ [])
      (logger_reply ++ codes "  app.twice: another bind 2" ∷ [])
  pub better_definition : Replies
      (presented (codes "log") (identity ∷ printer ∷ [])
      (claim (codes "id") identity_certificate
      ∷ claim (codes "line")
      (codes "cert 1" ∷ codes "bind out: Console^{cap}" ∷ codes "bind id: (_0: Unit) -> Unit" ∷ printer_term) ∷ []) ∷ [])
      (codes "  log.line: another bind 2" ∷ [])
  -- a device of another kind, or with a set of its own
  pub another_device : RepliesBeside counter
      (presented (codes "log") (identity ∷ []) (claim (codes "id") identity_certificate ∷ []) ∷ [])
      (codes "  log.id: another bind 1" ∷ [])
  pub pure_device : Replies
      (presented (codes "log") (identity ∷ [])
      (claim (codes "id")
      (codes "cert 1" ∷ codes "bind out: Console" ∷ codes "term fun (_0: Unit) => _0" ∷
      codes "1 t-var [] : Unit^{_0}" ∷ codes "2 t-abs [1] : (_0: Unit) -> Unit^{_0}" ∷ []) ∷ []) ∷ [])
      (codes "  log.id: another bind 1" ∷ [])
  -- something of which the module knows nothing, or something less
  pub more_binds : Replies
      (presented (codes "log") (identity ∷ [])
      (claim (codes "id")
      (codes "cert 1" ∷ codes "bind out: Console^{cap}" ∷ codes "bind steal: (_0: Unit) -> Int" ∷
      codes "term fun (_0: Unit) => _0" ∷ codes "1 t-var [] : Unit^{_0}" ∷
      codes "2 t-abs [1] : (_0: Unit) -> Unit^{_0}" ∷ []) ∷ []) ∷ [])
      (codes "  log.id: another bind 2" ∷ [])
  pub fewer_binds : Replies
      (presented (codes "log") (identity ∷ [])
      (claim (codes "id")
      (codes "cert 1" ∷ codes "term fun (_0: Unit) => _0" ∷ codes "1 t-var [] : Unit^{_0}" ∷
      codes "2 t-abs [1] : (_0: Unit) -> Unit^{_0}" ∷ []) ∷ []) ∷ [])
      (codes "  log.id: another bind 1" ∷ [])
  -- another name for what stands there
  pub another_name : Replies
      (presented (codes "log") (identity ∷ [])
      (claim (codes "id")
      (codes "cert 1" ∷ codes "bind in: Console^{cap}" ∷ codes "term fun (_0: Unit) => _0" ∷
      codes "1 t-var [] : Unit^{_0}" ∷ codes "2 t-abs [1] : (_0: Unit) -> Unit^{_0}" ∷ []) ∷ []) ∷ [])
      (codes "  log.id: another bind 1" ∷ [])
  -- the certificates of two definitions, exchanged
  pub exchanged : Replies
      (presented (codes "log") (identity ∷ printer ∷ [])
      (claim (codes "id") printer_certificate ∷ claim (codes "line") identity_certificate ∷ []) ∷ [])
      (codes "  log.id: another term" ∷ [])
  -- the certificate of an older text
  pub older_text : Replies
      (presented (codes "m") (codes "def limit = 2" ∷ [])
      (claim (codes "limit")
      (codes "cert 1" ∷ codes "bind out: Console^{cap}" ∷ codes "term 1" ∷ codes "1 t-lit [] : Int" ∷ []) ∷ []) ∷ [])
      (codes "  m.limit: another term" ∷ [])
  -- a set that is written is no omitted one
  pub another_written_set : Replies
      (presented (codes "m") (codes "def f = fun (x: Int) => x" ∷ [])
      (claim (codes "f")
      (codes "cert 1" ∷ codes "bind out: Console^{cap}" ∷ codes "term fun (_0: Int^{out}) => _0" ∷
      codes "1 t-var [] : Int^{_0}" ∷ codes "2 t-abs [1] : (_0: Int^{out}) -> Int^{_0}" ∷ []) ∷ []) ∷ [])
      (codes "  m.f: another term" ∷ [])
  -- a recursive definition that assumes a better type of itself than it has
  pub better_self : Replies
      (presented (codes "m") (codes "def rec f: [X <: Any] -> Int = fun [X <: Any] => 1" ∷ [])
      (claim (codes "f")
      (codes "cert 1" ∷ codes "bind out: Console^{cap}" ∷ codes "bind f: [_T0 <: Any] -> Bool" ∷
      codes "term fun [_T0 <: Any] => 1" ∷ codes "1 t-lit [] : Int" ∷ codes "2 t-tabs [1] : [_T0 <: Any] -> Int" ∷ [])
      ∷ []) ∷ [])
      (codes "  m.f: another bind 2" ∷ [])
