-- One condition more, and all of them.
use Rattle.ov_terms.specs.Finding.{IsOfVersion}
use Rattle.ov_terms.proofs.Found.{all-more, all-of}
use Rattle.ov_terms.proofs.OfVersions.{any-of-version, every-of-version, not-of-version}
use Rattle.ov_terms.proofs.of_versions.+is_of_version.Goals as goal

pub are_of_versions-loop-cond-preserved : goal.are_of_versions-loop-cond-preserved
are_of_versions-loop-cond-preserved n c =
    all-more IsOfVersion _ _ _ c.loop-cond-test.true c.cond-item.is (c.is_of_version.ensures c.if-not-is_of_version.false) c.loop-cond.invariant

pub are_of_versions-returns : goal.are_of_versions-returns
are_of_versions-returns n c = λ _. all-of IsOfVersion _ _ c.loop-cond-test.false c.loop-cond.invariant

pub is_of_version-returns-in-Not : goal.is_of_version-returns-in-Not
is_of_version-returns-in-Not n c = λ true. rw c.in-Not.is (not-of-version _ (rw c.get.ensures at c.is_of_version-in-Not.ensures true))

pub is_of_version-returns-in-Every : goal.is_of_version-returns-in-Every
is_of_version-returns-in-Every n c = λ true. rw c.in-Every.is (every-of-version _ (rw c.as_slice.ensures at c.are_of_versions.ensures true))

pub is_of_version-returns-in-Any : goal.is_of_version-returns-in-Any
is_of_version-returns-in-Any n c = λ true. rw c.in-Any.is (any-of-version _ (rw c.as_slice-in-Any.ensures at c.are_of_versions-in-Any.ensures true))
