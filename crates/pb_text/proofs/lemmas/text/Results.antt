-- What is known of a result, given whether it is an error. Offered to other crates.
use Rattle.pb_text.proofs.Common.{arith, ◌≡◌, Err, false, Ok, Result, true, if◌then◌else◌, is_err, is_ok, OnErr, OnOk}

pub when_ok : {T E : Type 0} (r : Result T E) (P : Type 0) → OnOk r P → is_err r ≡ false → P
when_ok r P h e = grind arith

pub when_err : {T E : Type 0} (r : Result T E) (P : Type 0) → OnErr r P → is_err r ≡ true → P
when_err r P h e = grind arith

pub unchanged : {T E A : Type 0} (r : Result T E) (new more old : A) → new ≡ (if is_ok r then more else old) → is_err r ≡ true → new ≡ old
unchanged r new more old h e = grind arith

pub grown : {T E A : Type 0} (r : Result T E) (new more old : A) → new ≡ (if is_ok r then more else old) → is_err r ≡ false → new ≡ more
grown r new more old h e = grind arith

pub ok_or_err : {T E A : Type 0} {x : T} {y : E} → ◌≡◌ {A = Result T E} (Ok x) (Err y) → A
ok_or_err e = cc

pub same_ok : {T E : Type 0} {x y : T} → ◌≡◌ {A = Result T E} (Ok x) (Ok y) → x ≡ y
same_ok e = cc

pub same_err : {T E : Type 0} {x y : E} → ◌≡◌ {A = Result T E} (Err x) (Err y) → x ≡ y
same_err e = cc
