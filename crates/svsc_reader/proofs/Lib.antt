mod Peers
