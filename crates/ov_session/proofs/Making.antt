-- A dataset that is generated: done, refused, or broken off.
use Rattle.std.proofs.Common.{◌≡◌, ℕ, List, Some, None, refl, sym, ap, subst}
use Rattle.std.specs.Prelude.{IfErr, IfOk, IsErrOf, OnOk, Option, Ok, Err, Result}
use Rattle.std.specs.Option.{option_map}
use Rattle.ov_host.specs.Host.{State}
use Rattle.ov_core.specs.Held.{Held}
use Rattle.law_runs.specs.Serving.{Does}
use Rattle.ov_model.specs.Act.{Deed, Session}
use Rattle.ov_model.specs.World.{World}
use Rattle.ov_model.specs.declared.refusal.Refusal.{Refusal}
use Rattle.ov_model.specs.declared.reply.Reply.{Reply}
use Rattle.ov_model.specs.declared.reply.Reply.TheVariants as says
use Rattle.ov_generate.specs.Making.{Ends, EndsBy}
use Rattle.ov_generate.specs.Making.{IsDamageOf as IsDamageOfStore}
use Rattle.ov_generate.specs.Reads.{HasFetched}
use Rattle.ov_session.proofs.Standing.{the_end}
use Rattle.ov_session.specs.Commands.{Acts, IsDamageOf}
use Rattle.ov_session.specs.Errors.{end_of, reply_of}
use Rattle.ov_session.specs.Standing.{IsAtSilently}
use Rattle.ov_session.specs.declared.errors.EndErr.{EndErr}
use Rattle.ov_session.specs.declared.errors.EndErr.TheVariants as ending
use Rattle.ov_store.specs.Refusals.{refusal_of}
use Rattle.ov_store.specs.declared.errors.StoreErr.{StoreErr}
use Rattle.ov_store.specs.declared.errors.StoreErr.TheVariants as why

-- ---- a fault of the host

pub host_ends : (name : List ℕ) (off : StoreErr) (result : Result Reply EndErr) → IfOk result (λ r. reply_of name off ≡ Some r) → IfErr result (λ e. end_of off ≡ Some e) → off ≡ why.Host
    → IsErrOf result ending.Host
host_ends name off (Ok r) said ends is = let no : reply_of name why.Host ≡ Some r = subst (λ o. reply_of name o ≡ Some r) is said in absurd cc
host_ends name off (Err e) said ends is = ap Err (sym (the_end ending.Host e (subst (λ o. end_of o ≡ Some e) is ends)))

pub err_same : {A : Type 0} (r : Result A StoreErr) (off e : StoreErr) → r ≡ Err off → r ≡ Err e → off ≡ e
err_same r off e is as_ = cc

-- where it isn't one
pub ok_spared : (P : Type 0) (name : List ℕ) (off : StoreErr) (result : Result Reply EndErr) → IfOk result (λ r. reply_of name off ≡ Some r) → ((off ≡ why.Host → ⊥) → P) → OnOk result P
ok_spared P name off (Ok r) said then_ = then_ (λ is. let no : reply_of name why.Host ≡ Some r = subst (λ o. reply_of name o ≡ Some r) is said in absurd cc)
ok_spared P name off (Err e) said then_ = tt

pub fetched_fault : (name : List ℕ) (seed count versions : ℕ) (before now : Held) (P Q : Type 0) (old new : State) → HasFetched name seed count versions before now P old new → (P → Q)
    → HasFetched name seed count versions before now Q old new
fetched_fault name seed count versions before now P Q old new f to =
    record { begun = f.begun; are = f.are; few = f.few; last = λ fine. f.last (λ p. fine (to p)); fetched = f.fetched }

-- ---- how it ends

end_unrefused : (name : List ℕ) (off : StoreErr) (e : EndErr) → end_of off ≡ Some e → refusal_of name off ≡ None
end_unrefused name why.Host e is = refl
end_unrefused name why.Memory e is = refl
end_unrefused name (why.Damaged area at) e is = refl
end_unrefused name (why.Full pages) e is = absurd cc
end_unrefused name why.JournalFull e is = absurd cc
end_unrefused name why.NoCvd e is = absurd cc
end_unrefused name why.CvdExists e is = absurd cc
end_unrefused name (why.NoVersion vid) e is = absurd cc
end_unrefused name (why.RepeatedVersion vid) e is = absurd cc
end_unrefused name (why.DuplicateKey row) e is = absurd cc
end_unrefused name why.TooManyVersions e is = absurd cc
end_unrefused name why.TooManyRecords e is = absurd cc
end_unrefused name why.TooManyRows e is = absurd cc
end_unrefused name why.TooManyCvds e is = absurd cc
end_unrefused name why.NoNumbers e is = absurd cc
end_unrefused name (why.FormatOne row) e is = absurd cc

module _ (name : List ℕ) (d : Deed) (s : Session) (w : World) (before now : Held) (old new : State) where
  refused_as : (o : Option Refusal) (reply : Reply) → option_map says.Refused o ≡ Some reply → EndsBy o d s w before now old new → Does d s s w reply before now old new
  refused_as None reply said ends = absurd cc
  refused_as (Some refusal) reply said ends = subst (λ r. Does d s s w r before now old new) (some_reply (says.Refused refusal) reply said) ends
    where
      some_reply : (a b : Reply) → Some a ≡ Some b → a ≡ b
      some_reply a b e = cc

  pub ends_acts : (off : StoreErr) (result : Result Reply EndErr) → IfOk result (λ r. reply_of name off ≡ Some r) → IfErr result (λ e. end_of off ≡ Some e)
      → Ends name d s w before now old new off → Acts d s s w result before now old new
  ends_acts off (Ok reply) said ends is = refused_as (refusal_of name off) reply said is
  ends_acts off (Err e) said ends is = subst (λ o. EndsBy o d s w before now old new) (end_unrefused name off e ends) is

pub acts_silently : (d : Deed) (s t : Session) (w : World) (result : Result Reply EndErr) (before now : Held) (old new : State) → Acts d s t w result before now old new
    → OnOk result (IsAtSilently now old new)
acts_silently d s t w (Ok reply) before now old new does = record { at = (does.world, does.at); printed = does.printed }
acts_silently d s t w (Err why) before now old new breaks = tt

-- ---- damage

end_damage : (P : ℕ → Type 0) (off : StoreErr) (e : EndErr) → end_of off ≡ Some e → IsDamageOfStore P off → IsDamageOf P e
end_damage P why.Host e is damage = subst (IsDamageOf P) (the_end ending.Host e is) tt
end_damage P why.Memory e is damage = subst (IsDamageOf P) (the_end ending.Memory e is) tt
end_damage P (why.Damaged area at) e is damage = subst (IsDamageOf P) (the_end (ending.Damaged area at) e is) damage
end_damage P (why.Full pages) e is damage = absurd cc
end_damage P why.JournalFull e is damage = absurd cc
end_damage P why.NoCvd e is damage = absurd cc
end_damage P why.CvdExists e is damage = absurd cc
end_damage P (why.NoVersion vid) e is damage = absurd cc
end_damage P (why.RepeatedVersion vid) e is damage = absurd cc
end_damage P (why.DuplicateKey row) e is damage = absurd cc
end_damage P why.TooManyVersions e is damage = absurd cc
end_damage P why.TooManyRecords e is damage = absurd cc
end_damage P why.TooManyRows e is damage = absurd cc
end_damage P why.TooManyCvds e is damage = absurd cc
end_damage P why.NoNumbers e is damage = absurd cc
end_damage P (why.FormatOne row) e is damage = absurd cc

pub result_damage : (P : ℕ → Type 0) (off : StoreErr) (result : Result Reply EndErr) → IfErr result (λ e. end_of off ≡ Some e) → IsDamageOfStore P off → IfErr result (IsDamageOf P)
result_damage P off (Ok reply) ends damage = tt
result_damage P off (Err e) ends damage = end_damage P off e ends damage
