-- Which crate of messages has the body of a message.
use Rattle.cap_leaf.specs.declared.kinds.Kind.{Kind}
use Rattle.cap_leaf.specs.declared.kinds.Kind.TheVariants.{Caaa001, Caaa002, Caaa003, Caaa004, Caaa005, Caaa006, Caaa007, Caaa008, Catm001, Catm002, Catm003, Catm004}
use Rattle.cap_msgs.specs.declared.family.Family.{Family}
use Rattle.cap_msgs.specs.declared.family.Family.TheVariants.{Sale, Batch, Management}

abbrev pub family_of : Kind → Family
family_of Caaa001 = Sale
family_of Caaa002 = Sale
family_of Caaa003 = Sale
family_of Caaa004 = Sale
family_of Caaa005 = Sale
family_of Caaa006 = Sale
family_of Caaa007 = Sale
family_of Caaa008 = Sale
family_of Catm001 = Management
family_of Catm002 = Management
family_of Catm003 = Management
family_of Catm004 = Management
family_of _ = Batch
