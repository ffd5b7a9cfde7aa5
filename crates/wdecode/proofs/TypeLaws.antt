-- Reading agrees with spelling, for types.
use Rattle.std.proofs.Common.{ℕ, zero, suc, None}
use Rattle.wsyntax.specs.Binary.Production.{Agrees, byte, given, exactly}
use Rattle.wsyntax.specs.Binary.Values.{u32, vector}
use Rattle.wsyntax.specs.Binary.Types.{val_type, func_type, limits_of, limits, table_type, mutable_of, global_type}
use Rattle.wdecode.proofs.Agree.{byte_agrees, given_agrees, bind_agrees, u32_agrees, vector_agrees, exactly_agrees}

pub val_type_agrees : Agrees val_type
unfolding val_type
val_type_agrees = bind_agrees byte _ byte_agrees λ b. given_agrees _

pub func_type_agrees : Agrees func_type
unfolding func_type
func_type_agrees = bind_agrees (exactly 0x60) _ (exactly_agrees 0x60) λ tag. bind_agrees (vector val_type) _ (vector_agrees val_type val_type_agrees) λ params. bind_agrees (vector val_type) _ (vector_agrees val_type val_type_agrees) λ results. given_agrees _

limits_of_agrees : (tag : ℕ) → Agrees (limits_of tag)
limits_of_agrees zero = bind_agrees u32 _ u32_agrees λ n. given_agrees _
limits_of_agrees (suc zero) = bind_agrees u32 _ u32_agrees λ n. bind_agrees u32 _ u32_agrees λ m. given_agrees _
limits_of_agrees (suc (suc tag)) = given_agrees None

pub limits_agrees : Agrees limits
unfolding limits
limits_agrees = bind_agrees byte limits_of byte_agrees limits_of_agrees

pub table_type_agrees : Agrees table_type
unfolding table_type
table_type_agrees = bind_agrees (exactly 0x70) _ (exactly_agrees 0x70) λ tag. bind_agrees limits _ limits_agrees λ l. given_agrees _

pub global_type_agrees : Agrees global_type
unfolding global_type
global_type_agrees = bind_agrees val_type _ val_type_agrees λ t. bind_agrees byte _ byte_agrees λ b. bind_agrees (given (mutable_of b)) _ (given_agrees (mutable_of b)) λ m. given_agrees _
