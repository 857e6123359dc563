use Rattle.std.proofs.Common.{◌≡◌, ◌+◌, ◌-◌, length, take, drop, map}
use Rattle.ov_model.specs.Line.{read_options}
use Rattle.ov_cmd.specs.Table.{choice_of}
use Rattle.ov_cmd.proofs.Reading.{two_more}
use Rattle.ov_cmd.proofs.options.+read_options.Goals as goal

pub returns-in_ok-more-in-len2-up-clause-ok : goal.returns-in_ok-more-in-len2-up-clause-ok
returns-in_ok-more-in-len2-up-clause-ok t c =
    let same : read_options (map choice_of c.args.choices.now) c.args.before.items c.args.options.items c.args.nth c.args.words.now
    ≡ read_options (map choice_of c.args.choices.now) c.args.before.items c.in_ok-more-in-len2-up.more.items (c.args.nth + 2) (take (length c.args.words.now - 2) (drop 2 c.args.words.now)) =
    two_more _ c.args.before.items c.as_slice-in-len2-up.result.now c.args.options.items c.args.nth c.args.words.now c.letter-item-2.result c.value-item.result c.as_str-letter.result.now c.as_str-value.result.now
    c.in_ok-more-in-len2-up.more.items c.letter-item-2.is c.value-item.is c.in-len2-up.len_at_least c.as_str-letter.ensures c.as_str-value.ensures c.as_slice-in-len2-up.ensures.value c.in_ok-more-in-len2-up.ensures.ok in
    rw same c.read_options.ensures.ok

pub returns-in_ok-more-in-len2-up-clause-err : goal.returns-in_ok-more-in-len2-up-clause-err
returns-in_ok-more-in-len2-up-clause-err t c =
    let same : read_options (map choice_of c.args.choices.now) c.args.before.items c.args.options.items c.args.nth c.args.words.now
    ≡ read_options (map choice_of c.args.choices.now) c.args.before.items c.in_ok-more-in-len2-up.more.items (c.args.nth + 2) (take (length c.args.words.now - 2) (drop 2 c.args.words.now)) =
    two_more _ c.args.before.items c.as_slice-in-len2-up.result.now c.args.options.items c.args.nth c.args.words.now c.letter-item-2.result c.value-item.result c.as_str-letter.result.now c.as_str-value.result.now
    c.in_ok-more-in-len2-up.more.items c.letter-item-2.is c.value-item.is c.in-len2-up.len_at_least c.as_str-letter.ensures c.as_str-value.ensures c.as_slice-in-len2-up.ensures.value c.in_ok-more-in-len2-up.ensures.ok in
    rw same c.read_options.ensures.err
