-- What holds of an outcome where others do.
use Rattle.std.proofs.Common.{Result, Ok, Err, IfOk}
use Rattle.std.specs.Result.{OnOk}

pub if_ok_map : {T E : Type 0} (P R : T → Type 0) → ((t : T) → P t → R t) → (r : Result T E) → IfOk r P → IfOk r R
if_ok_map P R f (Ok t) p = f t p
if_ok_map P R f (Err e) p = tt

pub if_ok_both : {T E : Type 0} (P Q R : T → Type 0) → ((t : T) → P t → Q t → R t) → (r : Result T E) → IfOk r P → IfOk r Q → IfOk r R
if_ok_both P Q R f (Ok t) p q = f t p q
if_ok_both P Q R f (Err e) p q = tt

pub on_ok_map : {T E : Type 0} (P R : Type 0) → (P → R) → (r : Result T E) → OnOk r P → OnOk r R
on_ok_map P R f (Ok t) p = f p
on_ok_map P R f (Err e) p = tt
