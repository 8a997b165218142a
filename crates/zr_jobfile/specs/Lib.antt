pub mod JobFile
pub mod PushFile
pub mod Nodes
pub mod SnapFile
pub mod Trees
