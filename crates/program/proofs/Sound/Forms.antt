-- What an accessor finds is what the form holds.
use Prim.Native.Nat.{ℕ}
use mathlib.Core.Path.{◌≡◌, refl}
use Rattle.program.specs.declared.Form.{Form}
use Rattle.program.specs.declared.Form.TheVariants.{Chan, Send, Recv, Pair, Left, Right, Fun, Spawn, Sync, First, Second, Case, Apply}
use Rattle.program.specs.Program.{chan_of, spawn_of, fun_of, sync_of, case_of}
use Rattle.program.proofs.Maybe.{Found, nothing, found}

pub chan_form : (n : ℕ) (f : Form) → Found (λ m. (m ≡ n) × (f ≡ Chan)) (chan_of n f)
chan_form n = elim [
  | Form.Unit ↦ nothing
  | Chan ↦ found (refl, refl)
  | Send c m ↦ nothing
  | Recv c ↦ nothing
  | Pair x y ↦ nothing
  | Left x ↦ nothing
  | Right x ↦ nothing
  | Fun f x t ↦ nothing
  | Spawn t ↦ nothing
  | Sync e ↦ nothing
  | First a ↦ nothing
  | Second a ↦ nothing
  | Case s x t y w ↦ nothing
  | Apply f a ↦ nothing
]

pub fun_form : (f : Form) → Found (λ k. f ≡ Fun k.0 k.1 k.2) (fun_of f)
fun_form = elim [
  | Form.Unit ↦ nothing
  | Chan ↦ nothing
  | Send c m ↦ nothing
  | Recv c ↦ nothing
  | Pair x y ↦ nothing
  | Left x ↦ nothing
  | Right x ↦ nothing
  | Fun f x t ↦ found refl
  | Spawn t ↦ nothing
  | Sync e ↦ nothing
  | First a ↦ nothing
  | Second a ↦ nothing
  | Case s x t y w ↦ nothing
  | Apply f a ↦ nothing
]

pub spawn_form : (f : Form) → Found (λ t. f ≡ Spawn t) (spawn_of f)
spawn_form = elim [
  | Form.Unit ↦ nothing
  | Chan ↦ nothing
  | Send c m ↦ nothing
  | Recv c ↦ nothing
  | Pair x y ↦ nothing
  | Left x ↦ nothing
  | Right x ↦ nothing
  | Fun f x t ↦ nothing
  | Spawn t ↦ found refl
  | Sync e ↦ nothing
  | First a ↦ nothing
  | Second a ↦ nothing
  | Case s x t y w ↦ nothing
  | Apply f a ↦ nothing
]

pub sync_form : (f : Form) → Found (λ e. f ≡ Sync e) (sync_of f)
sync_form = elim [
  | Form.Unit ↦ nothing
  | Chan ↦ nothing
  | Send c m ↦ nothing
  | Recv c ↦ nothing
  | Pair x y ↦ nothing
  | Left x ↦ nothing
  | Right x ↦ nothing
  | Fun f x t ↦ nothing
  | Spawn t ↦ nothing
  | Sync e ↦ found refl
  | First a ↦ nothing
  | Second a ↦ nothing
  | Case s x t y w ↦ nothing
  | Apply f a ↦ nothing
]

pub case_form : (f : Form) → Found (λ k. f ≡ Case k.0 k.1 k.2 k.3 k.4) (case_of f)
case_form = elim [
  | Form.Unit ↦ nothing
  | Chan ↦ nothing
  | Send c m ↦ nothing
  | Recv c ↦ nothing
  | Pair x y ↦ nothing
  | Left x ↦ nothing
  | Right x ↦ nothing
  | Fun f x t ↦ nothing
  | Spawn t ↦ nothing
  | Sync e ↦ nothing
  | First a ↦ nothing
  | Second a ↦ nothing
  | Case s x t y w ↦ found refl
  | Apply f a ↦ nothing
]
