-- The tables of the nineteen messages, as plain data.
use Rattle.std.specs.Prelude.{ℕ, List, codes}
use Rattle.cap_leaf.specs.declared.kinds.LeafKind.{LeafKind}
use Rattle.cap_leaf.specs.declared.kinds.LeafKind.TheVariants.{Num, Amount, Sum, Ident, Account, Code6, DateTime, Code}
use Rattle.cap_leaf.specs.declared.kinds.CodeList.TheVariants as list
use Rattle.cap_leaf.specs.declared.kinds.Kind.{Kind}
use Rattle.cap_leaf.specs.declared.kinds.Kind.TheVariants.{Caaa001, Caaa002, Caaa003, Caaa004, Caaa005, Caaa006, Caaa007, Caaa008, Caaa009, Caaa010, Caaa011, Caaa012, Caaa013, Caaa014, Caaa015, Catm001, Catm002, Catm003, Catm004}
use Rattle.cap_leaf.specs.Schema.{Content, Table, leaf, all, one_of, end, row}

abbrev pub once : List ℕ → Content → Table → Table
once tag content rest = row tag 1 1 content rest

abbrev pub once_leaf : List ℕ → LeafKind → Table → Table
once_leaf tag k rest = row tag 1 1 (leaf k) rest

abbrev pub maybe_leaf : List ℕ → LeafKind → Table → Table
maybe_leaf tag k rest = row tag 0 1 (leaf k) rest

abbrev pub party : Table
party = once_leaf (codes "Id") Ident end

-- the header from the protocol's version on
abbrev pub bare_header : Table
bare_header =
    once_leaf (codes "PrtcolVrsn") (Code (list.Protocol 1))
    (once_leaf (codes "XchgId") (Num 10)
    (maybe_leaf (codes "ReTrnsmssnCntr") (Num 3)
    (once_leaf (codes "CreDtTm") DateTime
    (once (codes "InitgPty") (all party)
    (once (codes "RcptPty") (all party) end)))))

abbrev pub header : Kind → Table
header k = once_leaf (codes "MsgFctn") (Code (list.Function k)) bare_header

abbrev pub totals : Table
totals =
    once_leaf (codes "SaleNb") (Num 10)
    (once_leaf (codes "SaleAmt") Sum
    (once_leaf (codes "CxlNb") (Num 10)
    (once_leaf (codes "CxlAmt") Sum end)))

abbrev pub sale : Table
sale =
    once_leaf (codes "TxRef") (Num 10)
    (once_leaf (codes "TtlAmt") Amount
    (once_leaf (codes "PAN") Account
    (once_leaf (codes "AuthstnCd") Code6 end)))

abbrev pub void : Table
void = once_leaf (codes "TxRef") (Num 10) end

abbrev pub cancel : Table
cancel = once_leaf (codes "TxRef") (Num 10) (once_leaf (codes "TtlAmt") Amount end)

abbrev pub period : Table
period = once_leaf (codes "Prd") (Num 10) (once (codes "Ttls") (all totals) end)

abbrev pub ended : Table
ended = once (codes "Sale") (all sale) (once (codes "Void") (all void) end)

abbrev pub item : Table
item = once (codes "Sale") (all sale) (once (codes "Void") (all void) (once (codes "Cxl") (all cancel) (once (codes "Cls") (all period) end)))

abbrev pub response : Table → Table
response rest = once_leaf (codes "Rspn") (Code list.Response) rest

abbrev pub last_item : Table
last_item = once_leaf (codes "LastItm") (Num 10) end

abbrev pub rejection : Table
rejection =
    once_leaf (codes "RjctRsn") (Code list.Reason)
    (maybe_leaf (codes "XpctdItm") (Num 10)
    (maybe_leaf (codes "FltPlc") (Num 10) end))

abbrev pub action : Table
action =
    once_leaf (codes "Tp") (Code list.Act)
    (once_leaf (codes "DataSetTp") (Code list.AnySet)
    (once_leaf (codes "StartDtTm") DateTime
    (once_leaf (codes "PrdMin") (Num 6) end)))

abbrev pub pair : Table
pair = once_leaf (codes "Key") Ident (once_leaf (codes "Val") Ident end)

abbrev pub status : Table
status =
    once_leaf (codes "DataSetReqrd") (Code list.Wanted)
    (once_leaf (codes "VrsnInForce") (Num 10)
    (once_leaf (codes "StgdVrsn") (Num 10)
    (once_leaf (codes "StgdParts") (Num 3) end)))

abbrev pub config : Table
config =
    once_leaf (codes "Vrsn") (Num 10)
    (once_leaf (codes "Part") (Num 3)
    (once_leaf (codes "Parts") (Num 3)
    (row (codes "Row") 1 16 (all pair) end)))

-- a message element of a header and a body
abbrev pub message : List ℕ → Table → List ℕ → Table → Table
message tag head body inside = once tag (all (once (codes "Hdr") (all head) (once body (all inside) end))) end

-- The table of a message, whose one row is its message element.
abbrev pub table_of : Kind → Table
table_of Caaa001 = message (codes "AccptrAuthstnReq") (header Caaa001) (codes "AuthstnReq") (once_leaf (codes "TtlAmt") Amount (once_leaf (codes "PAN") Account end))
table_of Caaa002 = message (codes "AccptrAuthstnRspn") (header Caaa002) (codes "AuthstnRspn") (response (once_leaf (codes "AuthstnCd") Code6 end))
table_of Caaa003 = message (codes "AccptrCmpltnAdvc") (header Caaa003) (codes "CmpltnAdvc") (once (codes "Tx") (one_of ended) end)
table_of Caaa004 = message (codes "AccptrCmpltnAdvcRspn") (header Caaa004) (codes "CmpltnAdvcRspn") (response end)
table_of Caaa005 = message (codes "AccptrCxlReq") (header Caaa005) (codes "CxlReq") (once_leaf (codes "TtlAmt") Amount end)
table_of Caaa006 = message (codes "AccptrCxlRspn") (header Caaa006) (codes "CxlRspn") (response end)
table_of Caaa007 = message (codes "AccptrCxlAdvc") (header Caaa007) (codes "CxlAdvc") cancel
table_of Caaa008 = message (codes "AccptrCxlAdvcRspn") (header Caaa008) (codes "CxlAdvcRspn") (response end)
table_of Caaa009 = message (codes "AccptrRcncltnReq") (header Caaa009) (codes "RcncltnReq") period
table_of Caaa010 = message (codes "AccptrRcncltnRspn") (header Caaa010) (codes "RcncltnRspn") (response period)
table_of Caaa011 = message (codes "AccptrBtchTrf") (header Caaa011) (codes "BtchTrf") (row (codes "Itm") 1 100 (one_of item) end)
table_of Caaa012 = message (codes "AccptrBtchTrfRspn") (header Caaa012) (codes "BtchTrfRspn") (response last_item)
table_of Caaa013 = message (codes "AccptrDgnstcReq") (header Caaa013) (codes "DgnstcReq") last_item
table_of Caaa014 = message (codes "AccptrDgnstcRspn") (header Caaa014) (codes "DgnstcRspn") (response last_item)
table_of Caaa015 = message (codes "AccptrRjctn") (header Caaa015) (codes "Rjct") rejection
table_of Catm001 = message (codes "StsRpt") bare_header (codes "Sts") status
table_of Catm002 = message (codes "MgmtPlanRplcmnt") bare_header (codes "MgmtPlan") (row (codes "Actn") 1 8 (all action) end)
table_of Catm003 = message (codes "AccptrCfgtnUpd") bare_header (codes "AccptrCfgtn") config
table_of Catm004 = message (codes "TermnlMgmtRjctn") bare_header (codes "Rjct") rejection
