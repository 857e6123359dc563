use Rattle.std.proofs.Common.{◌<◌, sym, ◌∙◌, ap, subst, List, ℕ, length, string_bytes, String, Vec, Global, arith}
use Rattle.ov_memhost.specs.Named.{files_of, entries_of, IsFirst, IsMissing}
use Rattle.ov_memhost.proofs.Files.{map_replaced, map_pushed, name_at, entries_length}
use Rattle.ov_memhost.proofs.named.put.Goals as goal

pub returns-in-Some-clause-ok : goal.returns-in-Some-clause-ok
returns-in-Some-clause-ok c =
    let is : IsFirst (string_bytes c.args.name) (entries_of c.args.files.now.items) c.in-Some.place =
    subst (λ n. IsFirst n (entries_of c.args.files.now.items) c.in-Some.place) c.as_str.ensures.value
    (subst (λ (fs : List (String Global × Vec ℕ Global)). IsFirst c.as_str.result.now (entries_of fs) c.in-Some.place) c.as_slice.ensures.value c.in-Some.ensures)
    in let there : c.in-Some.place < length c.args.files.now.items = omega (arith, is.there, entries_length c.args.files.now.items)
    in map_replaced c.args.files.now.items c.in-Some.place (c.index_mut.result.now.0, c.args.bytes) (string_bytes c.args.name) is
    (sym (name_at c.args.files.now.items c.in-Some.place c.index_mut.result.now there c.index_mut.ensures.value) ∙ is.named)

pub returns-in_ok-push-in-None-clause-ok : goal.returns-in_ok-push-in-None-clause-ok
returns-in_ok-push-in-None-clause-ok c =
    let missing : IsMissing (string_bytes c.args.name) (entries_of c.args.files.now.items) =
    subst (λ n. IsMissing n (entries_of c.args.files.now.items)) c.as_str.ensures.value
    (subst (λ (fs : List (String Global × Vec ℕ Global)). IsMissing c.as_str.result.now (entries_of fs)) c.as_slice.ensures.value c.in-None.ensures)
    in ap files_of c.in_ok-push-in-None.ensures.items ∙ map_pushed c.args.files.now.items (c.args.name, c.args.bytes) missing
