use Rattle.std.proofs.Common.{refl}
use Rattle.cap_leaf.proofs.Views.{content_leaf, content_all, content_one_of, node_row}
use Rattle.cap_trees.proofs.schemas.schema_of.Goals as goal

pub returns-in-Caaa001 : goal.returns-in-Caaa001
returns-in-Caaa001 c = simp (node_row, content_leaf, content_all) (rw c.in-Caaa001.is refl)

pub returns-in-Caaa002 : goal.returns-in-Caaa002
returns-in-Caaa002 c = simp (node_row, content_leaf, content_all) (rw c.in-Caaa002.is refl)

pub returns-in-Caaa003 : goal.returns-in-Caaa003
returns-in-Caaa003 c = simp (node_row, content_leaf, content_all, content_one_of) (rw c.in-Caaa003.is refl)

pub returns-in-Caaa004 : goal.returns-in-Caaa004
returns-in-Caaa004 c = simp (node_row, content_leaf, content_all) (rw c.in-Caaa004.is refl)

pub returns-in-Caaa005 : goal.returns-in-Caaa005
returns-in-Caaa005 c = simp (node_row, content_leaf, content_all) (rw c.in-Caaa005.is refl)

pub returns-in-Caaa006 : goal.returns-in-Caaa006
returns-in-Caaa006 c = simp (node_row, content_leaf, content_all) (rw c.in-Caaa006.is refl)

pub returns-in-Caaa007 : goal.returns-in-Caaa007
returns-in-Caaa007 c = simp (node_row, content_leaf, content_all) (rw c.in-Caaa007.is refl)

pub returns-in-Caaa008 : goal.returns-in-Caaa008
returns-in-Caaa008 c = simp (node_row, content_leaf, content_all) (rw c.in-Caaa008.is refl)

pub returns-in-Caaa009 : goal.returns-in-Caaa009
returns-in-Caaa009 c = simp (node_row, content_leaf, content_all) (rw c.in-Caaa009.is refl)

pub returns-in-Caaa010 : goal.returns-in-Caaa010
returns-in-Caaa010 c = simp (node_row, content_leaf, content_all) (rw c.in-Caaa010.is refl)

pub returns-in-Caaa011 : goal.returns-in-Caaa011
returns-in-Caaa011 c = simp (node_row, content_leaf, content_all, content_one_of) (rw c.in-Caaa011.is refl)

pub returns-in-Caaa012 : goal.returns-in-Caaa012
returns-in-Caaa012 c = simp (node_row, content_leaf, content_all) (rw c.in-Caaa012.is refl)

pub returns-in-Caaa013 : goal.returns-in-Caaa013
returns-in-Caaa013 c = simp (node_row, content_leaf, content_all) (rw c.in-Caaa013.is refl)

pub returns-in-Caaa014 : goal.returns-in-Caaa014
returns-in-Caaa014 c = simp (node_row, content_leaf, content_all) (rw c.in-Caaa014.is refl)

pub returns-in-Caaa015 : goal.returns-in-Caaa015
returns-in-Caaa015 c = simp (node_row, content_leaf, content_all) (rw c.in-Caaa015.is refl)

pub returns-in-Catm001 : goal.returns-in-Catm001
returns-in-Catm001 c = simp (node_row, content_leaf, content_all) (rw c.in-Catm001.is refl)

pub returns-in-Catm002 : goal.returns-in-Catm002
returns-in-Catm002 c = simp (node_row, content_leaf, content_all) (rw c.in-Catm002.is refl)

pub returns-in-Catm003 : goal.returns-in-Catm003
returns-in-Catm003 c = simp (node_row, content_leaf, content_all) (rw c.in-Catm003.is refl)

pub returns-in-Catm004 : goal.returns-in-Catm004
returns-in-Catm004 c = simp (node_row, content_leaf, content_all) (rw c.in-Catm004.is refl)
